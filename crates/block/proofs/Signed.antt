-- What a test of a signed parameter says of the number, and that it is cast whole where it is not negative. A signed local holds bits, so a test
-- and a cast are of  to_z w32 (of_z w32 z).  Assumes nothing.
use Prim.Native.Nat.{ℕ}
use native.Mathlib.Nat.{lt_of_le_of_lt}
use native.Mathlib.Omega.{arith}
use mathlib.Core.Path.{◌≡◌, sym, ap, ◌∙◌}
use mathlib.Core.Bool.{Bool, true, false}
use lib.Dec.{T, lit<}
use lib.IntN.{ℤ, pos, negsuc, nat_abs}
use lib.Signed.{lt_z, le_z, non_neg, nat_abs-le}
use mir.Syntax.{w32}
use mir.Val.{Fits, SFits, to_z, of_z}
use mir.Facts.{to_z-of_z}

-- a test of the bits is one of the number
pub plain : (t : ℤ → Bool) {b : Bool} {z : ℤ} → SFits w32 z → t (to_z w32 (of_z w32 z)) ≡ b → t z ≡ b
plain t f e = sym (ap t (to_z-of_z f)) ∙ e

pub cast : {z : ℤ} → SFits w32 z → nat_abs (to_z w32 (of_z w32 z)) ≡ nat_abs z
cast f = ap nat_abs (to_z-of_z f)

never : {A : Type 0} → ◌≡◌ {A = Bool} true false → A
never e = let z : ◌≡◌ {A = ℕ} 0 1 = cc in absurd (omega arith)

-- what is not under a natural number is not negative
pub not_under : (k : ℕ) (z : ℤ) → lt_z z (pos k) ≡ false → T (non_neg z)
not_under k (pos n) h = tt
not_under k (negsuc n) h = never h

pub from_zero : (z : ℤ) → le_z (pos 0) z ≡ true → T (non_neg z)
from_zero (pos n) h = tt
from_zero (negsuc n) h = never (sym h)

-- what is not negative is cast whole
pub whole : {z : ℤ} → SFits w32 z → T (non_neg z) → T (non_neg (to_z w32 (of_z w32 z))) × Fits w32 (nat_abs (to_z w32 (of_z w32 z)))
whole {z} f n = rw (to_z-of_z f) (n, record { fits = lt_of_le_of_lt (nat_abs-le z f.sfits) (lit< tt) })
