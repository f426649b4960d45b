-- `ring::put_record` meets its contract. The first i numbers are written, and nothing else has changed. Assumes nothing.
use Prim.Native.Nat.{◌-◌, ◌*◌, ◌≤◌}
use mathlib.Core.Path.{◌≡◌}
use lib.ListN.{length}
use lib.Seq.{paste}
use Rattle.ring.proofs.put_record.Given as goal

abbrev pub invariant-loop-i : goal.invariant-loop-i
invariant-loop-i l =
    (l.i ≤ length l.numbers) × ((length l.records ≡ length l.initial.records) × (l.records ≡ paste l.initial.records (l.slot * length l.numbers) l.numbers l.i))

abbrev pub decreases-loop-i : goal.decreases-loop-i
decreases-loop-i l = length l.numbers - l.i
