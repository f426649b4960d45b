-- Whether the time lies far off the next flush, by an unsigned test of their difference. Assumes nothing.
use Prim.Native.Nat.{ℕ, ◌-◌, ◌≤◌, ◌<◌, ◌^◌}
use native.Mathlib.Omega.{arith}
use mathlib.Core.Path.{◌≡◌, refl, sym, ◌∙◌}
use mathlib.Core.Bool.{Bool, true, false, ◌||◌}
use mathlib.Core.Logic.{⊎_elim}
use lib.Dec.{ltb, leb}
use lib.IntN.{ℤ, pos, negsuc}
use lib.Signed.{le_z, lt_z}
use borrow.Author.Tests.{leb-true, leb-false, lt-ltb, le-ltb, le-leb, lt-leb}
use Rattle.serial.specs.Branch.{pick}
use Rattle.serial.specs.Wrap.{sub32, signed32}
use Rattle.serial.proofs.Sign.{signed_test}
use Rattle.flushing.specs.Clocks.{far}
use Rattle.flushing.proofs.Leaving.{side}

-- ---- of the difference

-- 10,000 past it or more, and more than 10,000 before it
slap : ℕ → Bool
slap d = le_z (pos 10000) (signed32 d) || lt_z (signed32 d) (negsuc 9999)

halves : ℕ → Bool
halves d = pick (ltb d (2 ^ 31)) (leb 10000 d) false || pick (ltb d (2 ^ 31)) false (ltb 9999 (2 ^ 32 - 1 - d))

slap-halves : (d : ℕ) → slap d ≡ halves d
unfolding slap halves
slap-halves d = rw (signed_test (le_z (pos 10000)) d, signed_test (λ (z : ℤ). lt_z z (negsuc 9999)) d)

near : (d : ℕ) → d < 10000 → halves d ≡ false
unfolding halves pick
near d h = rw (lt-ltb d (2 ^ 31) (omega arith), lt-leb 10000 d h)

past : (d : ℕ) → 10000 ≤ d → d < 2 ^ 31 → halves d ≡ leb d 4294957295
unfolding halves pick
past d h l = rw (lt-ltb d (2 ^ 31) l, le-leb 10000 d h, le-leb d 4294957295 (omega arith))

-- in the upper half the distance before it counts
before : (d : ℕ) → 2 ^ 31 ≤ d → halves d ≡ leb d 4294957295
unfolding halves pick
before d h = rw (le-ltb d (2 ^ 31) h) (of (leb d 4294957295) refl)
  where
    of : (t : Bool) → leb d 4294957295 ≡ t → ltb 9999 (4294967295 - d) ≡ t
    of true e = lt-ltb 9999 (4294967295 - d) (omega (arith, leb-true d 4294957295 e))
    of false e = le-ltb 9999 (4294967295 - d) (omega (arith, leb-false d 4294957295 e))

-- ---- of the two times

module _ (current ts_flush : ℕ) where
  pub far-near : (past : ℕ) → past ≡ sub32 current ts_flush → past < 10000 → leb 10000 past ≡ far current ts_flush
  unfolding far slap
  far-near past e h = lt-leb 10000 past h ∙ sym (slap-halves (sub32 current ts_flush) ∙ rw (← e) (near past h))

  pub far_off : (past : ℕ) → past ≡ sub32 current ts_flush → 10000 ≤ past → leb past 4294957295 ≡ far current ts_flush
  unfolding far slap
  far_off d e h =
      sym (slap-halves (sub32 current ts_flush) ∙ rw (← e) (⊎_elim (λ l. past d h l) (λ l. before d l) (side d (2 ^ 31))))
