-- `transmit::seek_run` meets its contract: the places before q are passed. Assumes nothing.
use Prim.Native.Nat.{ℕ, ◌-◌, ◌≤◌, ◌<◌}
use mathlib.Core.Path.{◌≡◌}
use mathlib.Core.Bool.{false}
use mathlib.Core.List.{[]}
use Rattle.ring.specs.Lists.{lists}
use Rattle.snd_ring.specs.Store.{store_of}
use Rattle.transmit.specs.Memory.{ends_at}
use Rattle.transmit.proofs.seek_run.Given as goal

abbrev pub invariant-loop-q : goal.invariant-loop-q
invariant-loop-q l =
    (l.from ≤ l.q) × (l.q ≤ l.to) × ((p : ℕ) → l.from ≤ p → p < l.q → ends_at l.sn (store_of 8 (lists l.records [])) p ≡ false)

abbrev pub decreases-loop-q : goal.decreases-loop-q
decreases-loop-q l = l.to - l.q
