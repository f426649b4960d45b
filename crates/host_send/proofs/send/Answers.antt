-- `host_send::send` meets its contract: the law of words that are no block, and of those that are. Assumes nothing.
use Rattle.std.proofs.Common.{sym, refl}
use native.Mathlib.Omega.{arith}
use Rattle.ring.specs.Lists.{lists}
use Rattle.snd_ring.specs.Store.{store_of}
use Rattle.words.proofs.Tests.{block_length}
use Rattle.host_send.proofs.Laws.{sent_none, sent-words}
use Rattle.host_send.proofs.send.Goals as goal

pub returns-in_default : goal.returns-in_default
returns-in_default c =
    let a = c.args in
    sent_none _ (sym c.in_default.ensures) (lists a.records.now a.room.now) a.bytes.now a.queued.now refl

pub put_snd_ring-requires : goal.put_snd_ring-requires
put_snd_ring-requires c = block_length _ c.in-Some.ensures.0

pub returns : goal.returns
returns c =
    let a = c.args in
    let o = c.send-out.result in
    sent-words _ (sym c.in-Some.ensures.0) (lists a.records.now a.room.now) a.bytes.now a.queued.now refl c.in-Some.ensures.1 (λ i. omega (arith, c.slice_known-1.given i)) (record { block = o.block; answer = o.answer; store = store_of 8 (lists _ _) }) c.send-out.ensures.is c.put_snd_ring.ensures c.number_of.ensures c.unwrap_or.ensures
