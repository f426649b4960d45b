-- `acks_sized` meets its contract: a turn for each ack. Assumes nothing.
use Prim.Native.Nat.{◌-◌}
use lib.ListN.{replicate}
use Rattle.packing.specs.Packer.{sized}
use Rattle.packing.proofs.Turns.{Going}
use Rattle.packing.proofs.acks.acks_sized.Given as goal

abbrev pub invariant-loop : goal.invariant-loop
invariant-loop l = Going l.mtu l.q (replicate (l.n - l.counter) 24) (sized l.mtu l.initial.q (replicate l.n 24))
