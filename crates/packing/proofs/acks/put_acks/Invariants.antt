-- `put_acks` meets its contract: a header for each pair. Assumes nothing.
use Prim.Native.Nat.{◌-◌}
use Rattle.ring.specs.Records.{put}
use Rattle.flushing.specs.Pack.{flat}
use Rattle.packing.specs.Acks.{acks_from, ack_bytes}
use Rattle.packing.proofs.Laying.{Laying}
use Rattle.packing.proofs.acks.put_acks.Given as goal

abbrev pub invariant-loop-i : goal.invariant-loop-i
invariant-loop-i l =
    Laying l.dst l.end (flat (ack_bytes l.told (acks_from l.acks l.i (l.to - l.i)))) (put l.initial.dst l.at (flat (ack_bytes l.told (acks_from l.acks l.from (l.to - l.from)))))
