-- `recorded::sums::sum_of` meets its contract. The loop's invariant: the sum so far and the numbers left give the sum. Assumes nothing.
use Rattle.std.proofs.Common.{◌≡◌, ℕ, map, drop}
use Rattle.recorded.specs.Sums.{sum_from, sum_of, Wide}
use Rattle.recorded.proofs.sums.sum_of.Given as goal

abbrev pub invariant-loop-x : goal.invariant-loop-x
invariant-loop-x g l =
    (f : g.row.T.Denot → ℕ) → Wide g.T.Into.converts f → sum_from l.place l.sum (map f (drop l.x-index l.numbers)) ≡ sum_of (map f l.numbers)
