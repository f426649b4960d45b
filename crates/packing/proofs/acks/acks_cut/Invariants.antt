-- `acks_cut` meets its contract: a turn for each ack. Assumes nothing.
use Prim.Native.Nat.{◌-◌}
use lib.ListN.{replicate}
use Rattle.ring.specs.Records.{put}
use Rattle.flushing.specs.Pack.{pack_sizes}
use Rattle.packing.specs.Packer.{sized}
use Rattle.packing.proofs.Turns.{Cutting}
use Rattle.packing.proofs.acks.acks_cut.Given as goal

abbrev pub invariant-loop : goal.invariant-loop
invariant-loop l =
    Cutting l.mtu l.q l.lengths (replicate (l.n - l.counter) 24) (sized l.mtu l.initial.q (replicate l.n 24)) (put l.initial.lengths l.initial.q.count (pack_sizes l.mtu l.initial.q.used (replicate l.n 24)).0)
