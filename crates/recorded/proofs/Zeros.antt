-- Buffers of zeros, and their parts. Assumes nothing.
use Rattle.std.proofs.Common.{◌≡◌, ℕ, zero, suc, ◌≤◌, List, ◌∷◌, take, replicate, refl, ap, arith}
use Rattle.recorded.specs.Sums.{zeros}

pub all-zeros : (n : ℕ) {xs : List ℕ} → xs ≡ replicate n 0 → xs ≡ zeros n
unfolding zeros
all-zeros n e = e

-- the first n of them
pub zeros-part : (n k : ℕ) → n ≤ k → take n (zeros k) ≡ zeros n
unfolding zeros
zeros-part zero k h = refl
zeros-part (suc n) zero h = absurd (omega arith)
zeros-part (suc n) (suc k) h = ap {B = _} (λ t. 0 ∷ t) (zeros-part n k (omega arith))
