-- The laws of `specs/Marks.antt`: one mark, and the indices that are passed. Assumes nothing.
use mathlib.Core.Path.{◌≡◌, refl}
use Prim.Native.Nat.{ℕ, zero, suc, ◌+◌, ◌-◌, ◌≤◌, ◌<◌}
use native.Mathlib.Omega.{arith}
use borrow.Author.Tests.{lt-ltb, le-ltb}
use Rattle.ring.specs.Places.{summed}
use Rattle.ring.proofs.Places.{by_less, summed-first}
use Rattle.ring.proofs.Counting.{by_bool, by-least, least_yes, least_no, least_le}
use Rattle.snd_ring.specs.Marks.{live_of, passed}

module _ (k : ℕ) where
  pub live_no : k ≡ 0 → live_of k ≡ 0
  live_no h = least_no 1 k (omega arith)

  pub live_yes : (k ≡ 0 → ⊥) → live_of k ≡ 1
  live_yes h = least_yes 1 k (omega arith)

  -- by cases
  pub by-live : {A : Type 0} → (k ≡ 0 → live_of k ≡ 0 → A) → ((k ≡ 0 → ⊥) → live_of k ≡ 1 → A) → A
  by-live f g = by-least 1 k (λ h e. f (omega arith) e) (λ h e. g (λ z. omega arith) e)

-- ---- the indices that are passed

module _ (g : ℕ → ℕ) where
  passed_none : (from k : ℕ) → passed g from 0 k ≡ 0
  unfolding passed
  passed_none from k = refl

  passed-stop : (from n k : ℕ) → k < live_of (g from) → passed g from (suc n) k ≡ 0
  unfolding passed
  passed-stop from n k h = rw (lt-ltb k (live_of (g from)) h)

  passed_on : (from n k : ℕ) → live_of (g from) ≤ k → passed g from (suc n) k ≡ suc (passed g (suc from) n (k - live_of (g from)))
  unfolding passed
  passed_on from n k h = rw (le-ltb k (live_of (g from)) h)

  abbrev counts : ℕ → ℕ → ℕ
  counts from n = summed (λ (i : ℕ). live_of (g i)) from n

  nothing : (from : ℕ) → counts from 0 ≡ 0
  unfolding summed
  nothing from = refl

  -- k segments are among them
  pub passed-lives : (from n k : ℕ) → k ≤ counts from n → counts from (passed g from n k) ≡ k
  passed-lives from zero k h = let z = nothing from in rw (passed_none from k) (omega arith)
  passed-lives from (suc n) k h =
      by_less k (live_of (g from))
      (λ a. let b = least_le 1 (g from) in let z = nothing from in rw (passed-stop from n k a) (omega arith))
      (λ a.
      let f = summed-first (λ (i : ℕ). live_of (g i)) from n in
      let e = passed-lives (suc from) n (k - live_of (g from)) (omega arith) in
      let y = summed-first (λ (i : ℕ). live_of (g i)) from (passed g (suc from) n (k - live_of (g from))) in
      rw (passed_on from n k a) (omega arith))

  pub passed_le : (from n k : ℕ) → passed g from n k ≤ n
  passed_le from zero k = let e = passed_none from k in omega arith
  passed_le from (suc n) k =
      by_less k (live_of (g from))
      (λ a. let e = passed-stop from n k a in omega arith)
      (λ a. let e = passed_on from n k a in let h = passed_le (suc from) n (k - live_of (g from)) in omega arith)

  -- and the first index behind them is no gap
  pub passed-normal : (from n k : ℕ) → passed g from n k < n → g (from + passed g from n k) ≡ 0 → ⊥
  passed-normal from zero k h z = omega arith
  passed-normal from (suc n) k h z =
      by_less k (live_of (g from))
      (λ a.
      let e : from + passed g from (suc n) k ≡ from = let p = passed-stop from n k a in omega arith in
      let y = live_no (g from) (rw e at z) in
      omega arith)
      (λ a.
      let p = passed_on from n k a in
      let e : from + passed g from (suc n) k ≡ suc from + passed g (suc from) n (k - live_of (g from)) = omega arith in
      passed-normal (suc from) n (k - live_of (g from)) (omega arith) (rw e at z))

  -- ---- `passed_by`: what is left to pass from index i on, and the i before it

  module _ (n i k : ℕ) where
    pub pass-stop : i < n → k < live_of (g i) → i + passed g i (n - i) k ≡ i
    pass-stop a b =
        let e : n - i ≡ suc (n - i - 1) = omega arith in
        let p = passed-stop i (n - i - 1) k b in
        rw e (omega arith)

    pub pass-turn : (x : ℕ) → x ≡ live_of (g i) → i < n → x ≤ k → i + passed g i (n - i) k ≡ i + 1 + passed g (i + 1) (n - (i + 1)) (k - x)
    pass-turn x q a b =
        let e : n - i ≡ suc (n - (i + 1)) = omega arith in
        let f : suc i ≡ i + 1 = omega arith in
        let p = passed_on i (n - (i + 1)) k (omega arith) in
        let p = rw (f, ← q) at p in
        rw e (omega arith)

    pub pass-end : n ≤ i → i + passed g i (n - i) k ≡ i
    pass-end a =
        let e : n - i ≡ 0 = omega arith in
        let p = passed_none i k in
        rw e (omega arith)

pub ruleset of_passed = (pass-stop, pass-turn, pass-end, by_bool)
