-- `host_flush::flush` meets its contract: refused by the sizes of the ack memory, or a turn. Assumes nothing.
use native.Mathlib.Omega.{arith}
use Rattle.std.specs.Prelude.{None}
use Rattle.ring.specs.Lists.{lists}
use Rattle.packing.specs.FlushAck.{writing}
use Rattle.host_flush.proofs.Laws.{flush_unsized}
use Rattle.std.proofs.Common.{ap}
use Rattle.std.proofs.Common.{not}
use Rattle.host_flush.proofs.flush.Goals as goal

pub returns-then-not-ack_sizes : goal.returns-then-not-ack_sizes
returns-then-not-ack_sizes c =
    let a = c.args in
    let l = lists a.records.now a.room.now in
    let w = writing a.waiting.now a.out.now a.lengths.now in
    flush_unsized l a.acks.now w None c.ack_sizes.ensures (ap not c.if-not-ack_sizes.true) a.words.now a.datagrams.now (λ i. omega (arith, c.slice_known-1.given i))

pub returns : goal.returns
returns c = c.turn.ensures
