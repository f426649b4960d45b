-- "fixed records and payload slots in lent memory, with order numbers": the places of a ring's indices, in order, as a list, so that a walk over them is
-- one over a list, and a walk over two runs of places the one after the other. Assumes nothing.
use Rattle.std.specs.Prelude.{ℕ, zero, suc, ◌+◌, ◌-◌, ◌≤◌, ◌≡◌, List, [], ◌∷◌, ◌++◌}
use Rattle.ring.specs.Places.{place}
use Rattle.flight.specs.declared.Runs.{Runs}

-- those of the n indices from `from` on, of a ring with so many slots that starts at place `start`
unfoldable pub places_of : ℕ → ℕ → ℕ → ℕ → List ℕ
places_of slots start from zero = []
places_of slots start from (suc n) = place slots start from ∷ places_of slots start (suc from) n

-- a run: the n places from q on
unfoldable pub run_of : ℕ → ℕ → List ℕ
run_of q zero = []
run_of q (suc n) = q ∷ run_of (suc q) n

-- the lists that f gives at these places, end to end
unfoldable pub over : {A : Type 0} → (ℕ → List A) → List ℕ → List A
over f [] = []
over f (q ∷ qs) = f q ++ over f qs

-- P holds of each
abbrev pub Each : (ℕ → Type 0) → List ℕ → Type 0
Each P [] = Unit {0}
Each P (q ∷ qs) = P q × Each P qs

-- the places are one run, or two round the ring's end: those from `from` up to `to`, and then the first `rest`
pub record Covers (slots start from n : ℕ) (r : Runs) : Type 0 where
  pub places : places_of slots start from n ≡ run_of r.from (r.to - r.from) ++ run_of 0 r.rest
  pub low : r.from ≤ r.to
  pub high : r.to ≤ slots
  pub behind : r.rest ≤ slots
  pub sum : r.to - r.from + r.rest ≡ n
