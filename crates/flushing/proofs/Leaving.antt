-- How many segments leave the queue, by the numbers between snd_nxt and the limit: the source's loop counted at once. Assumes nothing.
use Prim.Native.Nat.{ℕ, zero, suc, ◌≤◌, ◌<◌, ◌^◌, min}
use native.Mathlib.Omega.{arith}
use mathlib.Core.Path.{◌≡◌, refl, sym, ap, ◌∙◌}
use mathlib.Core.Bool.{Bool, true, false}
use mathlib.Core.Logic.{◌⊎◌, inl, inr, ⊎_elim}
use lib.Dec.{ltb}
use borrow.Author.Tests.{ltb-true, ltb-false, lt-ltb, le-ltb, le-leb, lt-leb}
use Rattle.serial.specs.Branch.{pick}
use Rattle.serial.specs.Wrap.{add32, sub32}
use Rattle.flushing.specs.Windows.{leaving, leaving_between}

-- ---- by the numbers between

module _ (between waiting : ℕ) where
  some : between ≤ 2 ^ 31 → leaving_between between waiting ≡ min between waiting
  unfolding leaving_between pick
  some h = rw (le-leb between (2 ^ 31) h)

  over : 2 ^ 31 < between → leaving_between between waiting ≡ 0
  unfolding leaving_between pick
  over h = rw (lt-leb between (2 ^ 31) h)

-- either side of a border
pub side : (a b : ℕ) → (a < b) ⊎ (b ≤ a)
side a b = of (ltb a b) refl
  where
    of : (t : Bool) → ltb a b ≡ t → (a < b) ⊎ (b ≤ a)
    of true e = inl (ltb-true a b e)
    of false e = inr (ltb-false a b e)

-- ---- by the loop

module _ (limit next waiting : ℕ) where
  stops : sub32 next limit < 2 ^ 31 → leaving limit next (suc waiting) ≡ 0
  unfolding leaving pick
  stops h = rw (lt-ltb (sub32 next limit) (2 ^ 31) h)

  steps : 2 ^ 31 ≤ sub32 next limit → leaving limit next (suc waiting) ≡ suc (leaving limit (add32 next 1) waiting)
  unfolding leaving pick
  steps h = rw (le-ltb (sub32 next limit) (2 ^ 31) h)

none_left : (limit next : ℕ) → leaving limit next zero ≡ 0
unfolding leaving
none_left limit next = refl

-- with δ = snd_una + window − snd_nxt, modulo 2^32: the lesser of δ and those that wait where δ is at most 2^31, else none
pub leaving_is : (limit next waiting : ℕ) → limit < 2 ^ 32 → next < 2 ^ 32 → leaving limit next waiting ≡ leaving_between (sub32 limit next) waiting
leaving_is limit next zero l n =
    none_left limit next
    ∙ ⊎_elim (λ h. sym (over (sub32 limit next) 0 h)) (λ h. sym (some (sub32 limit next) 0 h ∙ omega arith)) (side (2 ^ 31) (sub32 limit next))
leaving_is limit next (suc waiting) l n =
    let d = sub32 limit next in
    ⊎_elim
    (λ h. stops limit next waiting h
    ∙ ⊎_elim (λ o. sym (over d (suc waiting) o)) (λ o. sym (some d (suc waiting) o ∙ omega arith)) (side (2 ^ 31) d))
    (λ h. steps limit next waiting h
    ∙ ap suc (leaving_is limit (add32 next 1) waiting l (omega arith) ∙ some (sub32 limit (add32 next 1)) waiting (omega arith))
    ∙ sym (some d (suc waiting) (omega arith) ∙ omega arith))
    (side (sub32 next limit) (2 ^ 31))

-- ---- what the code answers

module _ (limit next waiting between : ℕ) (l : limit < 2 ^ 32) (n : next < 2 ^ 32) (e : between ≡ sub32 limit next) where
  pub leaving-some : (r : ℕ) → between ≤ 2 ^ 31 → r ≡ min between waiting → r ≡ leaving limit next waiting
  leaving-some r h f = f ∙ sym (leaving_is limit next waiting l n ∙ rw (← e) (some between waiting h))

  pub leaving_none : 2 ^ 31 < between → 0 ≡ leaving limit next waiting
  leaving_none h = sym (leaving_is limit next waiting l n ∙ rw (← e) (over between waiting h))

-- no more leave than wait
pub leaving-most : (limit next waiting : ℕ) → leaving limit next waiting ≤ waiting
leaving-most limit next zero = omega (arith, none_left limit next)
leaving-most limit next (suc waiting) =
    ⊎_elim
    (λ h. omega (arith, stops limit next waiting h))
    (λ h. omega (arith, steps limit next waiting h, leaving-most limit (add32 next 1) waiting))
    (side (sub32 next limit) (2 ^ 31))
