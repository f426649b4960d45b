-- How many of a run of words are a bound or more: of the places of a list, and of the indices of a ring. Assumes nothing.
use Rattle.std.specs.Prelude.{ℕ, cond, List, length, get_or, leb}
use Rattle.ring.specs.Places.{place, summed}

-- 1 where x is at least the bound
unfoldable pub at_least : ℕ → ℕ → ℕ
at_least bound x = cond (leb bound x) 1 0

-- of the n places from `from` on
unfoldable pub count_in : ℕ → List ℕ → ℕ → ℕ → ℕ
count_in bound l from n = summed (λ (i : ℕ). at_least bound (get_or l i 0)) from n

-- the word at index i of the ring that starts at place s
abbrev pub word_at : List ℕ → ℕ → ℕ → ℕ
word_at l s i = get_or l (place (length l) s i) 0

-- of the n indices from `from` on
unfoldable pub count : ℕ → List ℕ → ℕ → ℕ → ℕ → ℕ
count bound l s from n = summed (λ (i : ℕ). at_least bound (word_at l s i)) from n
