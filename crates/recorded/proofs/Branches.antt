-- A choice by a test of two numbers, either side of it. Assumes nothing.
use Rattle.std.proofs.Common.{◌≡◌, ℕ, ◌<◌, ◌≤◌, eqb, ltb, le-ltb, lt-ltb, eq-eqb, ne_eqb}
use Rattle.serial.specs.Branch.{pick, pick_true, pick-false}

module _ {A : Type 0} {n k : ℕ} (a b : A) where
  pub is : n ≡ k → pick (eqb n k) a b ≡ a
  is h = pick_true a b (eq-eqb n k h)

  pub other : (n ≡ k → ⊥) → pick (eqb n k) a b ≡ b
  other h = pick-false a b (ne_eqb n k h)

  pub under : n < k → pick (ltb n k) a b ≡ a
  under h = pick_true a b (lt-ltb n k h)

  pub over : k ≤ n → pick (ltb n k) a b ≡ b
  over h = pick-false a b (le-ltb n k h)
