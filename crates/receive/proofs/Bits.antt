-- The tell bit as the code sets it, and as the rule says it. Assumes nothing.
use Rattle.std.proofs.Common.{◌≡◌, ℕ, zero, suc, ◌+◌, ◌*◌, ◌/◌, ◌%◌, ◌<◌, eqb, bit_or, refl, sym, ap, ◌∙◌, arith}
use Rattle.std.proofs.lemmas.Nat.Bits.{and_high}
use Rattle.std.specs.Int.Bits.{or_add_and}
use Rattle.serial.specs.Branch.{pick}
use Rattle.receive.specs.Memory.{tell_bit}

pub tell_put : (bits : ℕ) → bit_or bits 2 ≡ tell_bit bits
unfolding tell_bit pick
tell_put bits = go (bits / 2 % 2) refl (omega arith)
  where
    sum : bit_or bits 2 + bits / 2 % 2 * 2 ≡ bits + 2
    sum = ap (λ (r : ℕ). bit_or bits 2 + r) (sym (and_high bits 1 1)) ∙ or_add_and bits 2

    go : (r : ℕ) → bits / 2 % 2 ≡ r → r < 2 → bit_or bits 2 ≡ pick (eqb r 0) (bits + 2) bits
    go zero e h = omega (arith, sum, e)
    go (suc zero) e h = omega (arith, sum, e)
    go (suc (suc r)) e h = absurd (omega arith)
