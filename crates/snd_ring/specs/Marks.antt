-- A mark is 0 at a gap, and n + 1 at a segment whose payload has n bytes, at most 1,476. Assumes nothing.
use Rattle.std.specs.Prelude.{ℕ, zero, suc, ◌-◌, ◌≤◌, ◌<◌, cond, List, length, ltb}
use Rattle.ring.specs.Counting.{at_least, word_at, count}

-- 1 at a segment
abbrev pub live_of : ℕ → ℕ
live_of k = at_least 1 k

-- the mark at index i of a ring that starts at place s
abbrev pub mark_at : List ℕ → ℕ → ℕ → ℕ
mark_at l s i = word_at l s i

-- a ring that starts at place s does so within its marks, of which there are few
pub record Within (l : List ℕ) (s : ℕ) : Type 0 where
  pub many : length l ≤ 65535
  pub started : s < length l

-- how many of the n indices from `from` on are segments, and how many have a payload that would not fit
abbrev pub lives : List ℕ → ℕ → ℕ → ℕ → ℕ
lives l s from n = count 1 l s from n

abbrev pub faults : List ℕ → ℕ → ℕ → ℕ → ℕ
faults l s from n = count 1478 l s from n

-- how many of the n indices from `from` on are passed until k segments are, and the gaps behind them; g gives the marks
unfoldable pub passed : (ℕ → ℕ) → ℕ → ℕ → ℕ → ℕ
passed g from zero k = 0
passed g from (suc n) k = cond (ltb k (live_of (g from))) 0 (suc (passed g (suc from) n (k - live_of (g from))))
