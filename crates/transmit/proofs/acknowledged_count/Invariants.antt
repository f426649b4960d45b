-- `transmit::acknowledged_count` meets its contract: n are counted, and what is left from index i on is still to be counted. Assumes nothing.
use Prim.Native.Nat.{◌+◌, ◌≤◌}
use mathlib.Core.Path.{◌≡◌}
use mathlib.Core.List.{[]}
use Rattle.ring.specs.Lists.{lists}
use Rattle.snd_ring.specs.Store.{store_of}
use Rattle.sending.specs.Rules.{acknowledged_by}
use Rattle.transmit.specs.Memory.{flying_numbers}
use Rattle.transmit.proofs.Numbers.{more}
use Rattle.transmit.proofs.acknowledged_count.Given as goal

abbrev pub invariant-loop-i : goal.invariant-loop-i
invariant-loop-i l =
    (l.n ≤ l.i) × (l.n + more l.una l.ring (store_of 8 (lists l.records [])) l.i ≡ acknowledged_by l.una (flying_numbers l.ring (store_of 8 (lists l.records []))))
