-- "little-endian": a number stands as its bytes, the low one first. Assumes nothing.
use Rattle.std.specs.Prelude.{ℕ, zero, suc, ◌+◌, ◌*◌, ◌/◌, ◌%◌, ◌<◌, List, [], ◌∷◌, get_or, take, drop}

-- the number whose bytes are these, the low one first
abbrev pub number : List ℕ → ℕ
number [] = 0
number (b ∷ l) = b + 256 * number l

-- the number whose n bytes stand at `at`
abbrev pub le_at : ℕ → List ℕ → ℕ → ℕ
le_at n s at = number (take n (drop at s))

-- the n low bytes of x, the low one first
abbrev pub le_bytes : ℕ → ℕ → List ℕ
le_bytes zero x = []
le_bytes (suc n) x = (x % 256) ∷ le_bytes n (x / 256)

-- each is a byte, as in any slice of u8
abbrev pub Octets : List ℕ → Type 0
Octets l = (k : ℕ) → get_or l k 0 < 256
