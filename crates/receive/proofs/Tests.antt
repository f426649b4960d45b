-- Tests on numbers, as the code has them and as the rules have them. Assumes nothing.
use Prim.Native.Nat.{ℕ, ◌+◌, ◌<◌}
use native.Mathlib.Omega.{arith}
use native.Mathlib.Decide.{dec_lt}
use mathlib.Core.Path.{◌≡◌}
use mathlib.Core.Bool.{true, false}
use lib.Dec.{ltb, leb}
use borrow.Author.Tests.{lt-ltb, le-ltb, le-leb, lt-leb}

-- a is at most b where it is less than b + 1
pub leb-next : (a b : ℕ) → leb a b ≡ ltb a (b + 1)
leb-next a b = of (dec_lt b a)
  where
    of : Dec (b < a) → leb a b ≡ ltb a (b + 1)
    of (yes h) = rw (lt-leb a b h, le-ltb a (b + 1) (omega arith))
    of (no h) = rw (le-leb a b (omega arith), lt-ltb a (b + 1) (omega arith))

-- whether a number is more than 0, by whether it is 0
pub none-ltb : {x : ℕ} → x ≡ 0 → ltb 0 x ≡ false
none-ltb {x} e = le-ltb 0 x (omega arith)

pub some_lt : {x : ℕ} → (x ≡ 0 → ⊥) → 0 < x
some_lt {x} e = of (dec_lt 0 x)
  where
    of : Dec (0 < x) → 0 < x
    of (yes h) = h
    of (no h) = absurd (e (omega arith))

pub some-ltb : {x : ℕ} → (x ≡ 0 → ⊥) → ltb 0 x ≡ true
some-ltb {x} e = lt-ltb 0 x (some_lt e)
