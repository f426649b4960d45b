-- `host_flush::turn` meets its contract: the law of words that are no block, and of those that are. Assumes nothing.
use Rattle.std.proofs.Common.{sym, refl}
use native.Mathlib.Omega.{arith}
use Rattle.ring.specs.Lists.{lists}
use Rattle.packing.specs.FlushAck.{writing}
use Rattle.words.proofs.Tests.{block_length}
use Rattle.kcp_flush.specs.Calls.{turn_of}
use Rattle.host_flush.proofs.Laws.{flush_none, turn-done}
use Rattle.host_flush.proofs.turn.Goals as goal

pub returns-in_default : goal.returns-in_default
returns-in_default c =
    let a = c.args in
    let l = lists a.records.now a.room.now in
    let w = writing a.waiting.now a.out.now a.lengths.now in
    flush_none _ (sym c.in_default.ensures) refl (λ k. turn_of k l a.acks.now w a.time) l w a.datagrams.now

pub put_left-requires : goal.put_left-requires
put_left-requires c = block_length _ c.in-Some.ensures.0

pub returns : goal.returns
returns c =
    let a = c.args in
    let l = lists a.records.now a.room.now in
    let w = writing a.waiting.now a.out.now a.lengths.now in
    turn-done _ (sym c.in-Some.ensures.0) refl c.in-Some.ensures.1 l a.acks.now w a.time a.datagrams.now (λ i. omega (arith, c.slice_known-1.given i)) _ c.turn-left.ensures c.number_of.ensures c.count_in.ensures c.put_left.ensures
