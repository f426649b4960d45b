-- `host_input::input` meets its contract: the law of words that are no block, and of those that are. Assumes nothing.
use Rattle.std.proofs.Common.{sym, refl}
use Rattle.ring.specs.Lists.{lists}
use Rattle.words.proofs.Tests.{block_length}
use Rattle.host_input.proofs.Laws.{read_none, read_done}
use Rattle.host_input.proofs.input.Goals as goal

pub returns-in_default : goal.returns-in_default
returns-in_default c =
    let a = c.args in
    read_none (lists a.rcv_records.now a.rcv_room.now) a.acks.now a.waiting.now (lists a.snd_records.now a.snd_room.now) a.datagram.now _ (sym c.in_default.ensures) refl

pub write-requires : goal.write-requires
write-requires c = block_length _ c.in-Some.ensures.0

pub returns : goal.returns
returns c =
    let a = c.args in
    read_done (lists a.rcv_records.now a.rcv_room.now) a.acks.now a.waiting.now (lists a.snd_records.now a.snd_room.now) a.datagram.now _ (sym c.in-Some.ensures.0) refl c.in-Some.ensures.1 _ c.input-out.ensures.is c.number_of.ensures c.values_in.ensures c.write.ensures
