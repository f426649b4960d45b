-- `snd_ring::passed_by` meets its contract: what is left to pass from index i on, and the i before it, are the whole. Assumes nothing.
use Prim.Native.Nat.{◌+◌, ◌-◌}
use mathlib.Core.Path.{◌≡◌}
use Rattle.snd_ring.specs.Marks.{mark_at, passed}
use Rattle.snd_ring.proofs.passed_by.Given as goal

abbrev pub invariant-loop-i : goal.invariant-loop-i
invariant-loop-i l = l.i + passed (mark_at l.marks l.start) l.i (l.n - l.i) l.left ≡ passed (mark_at l.marks l.start) 0 l.n l.k
