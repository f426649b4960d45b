-- A ring of p slots, whose index 0 stands at place s: "fixed records and payload slots in lent memory, with order numbers", where the order is said by
-- a start and counts. What is seen along its indices. Assumes nothing.
use Rattle.std.specs.Prelude.{ℕ, zero, suc, ◌+◌, ◌-◌, cond, List, [], ◌++◌, ltb}

-- the place of index i: s + i, round the end
unfoldable pub place : ℕ → ℕ → ℕ → ℕ
place p s i = cond (ltb (s + i) p) (s + i) (s + i - p)

-- the sum of f over the n indices from `from` on
unfoldable pub summed : (ℕ → ℕ) → ℕ → ℕ → ℕ
summed f from zero = 0
summed f from (suc n) = f from + summed f (suc from) n

-- the lists that f gives at the n indices from `from` on, end to end
unfoldable pub along : {A : Type 0} → (ℕ → List A) → ℕ → ℕ → List A
along f from zero = []
along f from (suc n) = f from ++ along f (suc from) n
