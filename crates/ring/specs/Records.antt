-- "fixed records and payload slots in lent memory". Slots of w numbers or bytes each, one after the other in a list. Assumes nothing.
use Rattle.std.specs.Prelude.{ℕ, ◌+◌, ◌*◌, List, ◌++◌, length, take, drop, get_or}

-- l with x from index `at` on
unfoldable pub put : List ℕ → ℕ → List ℕ → List ℕ
put l at x = take at l ++ x ++ drop (at + length x) l

-- the n numbers of l from index `at` on
unfoldable pub part : List ℕ → ℕ → ℕ → List ℕ
part l at n = take n (drop at l)

-- l with x from place k of slot s on
abbrev pub put_slot : ℕ → List ℕ → ℕ → ℕ → List ℕ → List ℕ
put_slot w l s k x = put l (s * w + k) x

-- the n numbers from place k of slot s on
abbrev pub part_slot : ℕ → List ℕ → ℕ → ℕ → ℕ → List ℕ
part_slot w l s k n = part l (s * w + k) n

-- the number at place k of slot s
abbrev pub number_at : ℕ → List ℕ → ℕ → ℕ → ℕ
number_at w l s k = get_or l (s * w + k) 0
