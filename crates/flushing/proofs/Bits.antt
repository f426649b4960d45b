-- The bits of the probe as the code tests and sets them, and as the rule says them. Assumes nothing.
use Rattle.std.proofs.Common.{◌≡◌, ℕ, zero, suc, ◌+◌, ◌*◌, ◌/◌, ◌%◌, ◌<◌, not, eqb, bit_and, bit_or, refl, sym, ap, ◌∙◌, arith}
use Rattle.std.proofs.lemmas.Nat.{and_mask}
use Rattle.std.proofs.lemmas.Nat.Bits.{and_high}
use Rattle.std.specs.Int.Bits.{or_add_and}
use borrow.Author.Tests.{ne_eqb}
use Rattle.serial.specs.Branch.{pick}
use Rattle.flushing.specs.Probing.{ask_set, tell_set, ask_bit}

-- a remainder by 2 is 0 or 1
odd : (r : ℕ) → r < 2 → not (eqb r 0) ≡ eqb r 1
odd zero h = refl
odd (suc zero) h = refl
odd (suc (suc r)) h = absurd (omega arith)

odd_twice : (r : ℕ) → r < 2 → not (eqb (r * 2) 0) ≡ eqb r 1
odd_twice zero h = refl
odd_twice (suc zero) h = refl
odd_twice (suc (suc r)) h = absurd (omega arith)

module _ (bits : ℕ) where
  pub ask_tested : not (eqb (bit_and bits 1) 0) ≡ ask_set bits
  ask_tested = ap (λ (r : ℕ). not (eqb r 0)) (and_mask bits 1) ∙ odd (bits % 2) (omega arith)

  pub tell_tested : not (eqb (bit_and bits 2) 0) ≡ tell_set bits
  tell_tested = ap (λ (r : ℕ). not (eqb r 0)) (and_high bits 1 1) ∙ odd_twice (bits / 2 % 2) (omega arith)

  pub ask_put : bit_or bits 1 ≡ ask_bit bits
  unfolding ask_bit pick
  ask_put = go (bits % 2) refl
    where
      sum : bit_or bits 1 + bits % 2 ≡ bits + 1
      sum = ap (λ (r : ℕ). bit_or bits 1 + r) (sym (and_mask bits 1)) ∙ or_add_and bits 1

      go : (r : ℕ) → bits % 2 ≡ r → bit_or bits 1 ≡ pick (eqb r 0) (bits + 1) bits
      go zero e = omega (arith, sum, e)
      go (suc r) e = rw (ne_eqb (suc r) 0 (λ z. omega arith)) (omega (arith, sum, e))
