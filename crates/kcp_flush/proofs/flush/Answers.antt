-- `kcp_flush::flush` meets its contract: a turn. Assumes nothing.
use Rattle.ring.specs.Lists.{lists}
use Rattle.packing.specs.FlushAck.{writing}
use Rattle.kcp_flush.proofs.Calls.{flush_by}
use Rattle.kcp_flush.proofs.flush.Goals as goal

pub returns : goal.returns
returns c =
    let a = c.args in
    let l = lists a.records.now a.room.now in
    let w = writing a.waiting.now a.out.now a.lengths.now in
    flush_by a.block l a.acks.now w c.turn.ensures
