-- The laws of `specs/Places.antt`. Assumes nothing.
use mathlib.Core.Path.{◌≡◌, refl, ap, ◌∙◌}
use Prim.Native.Nat.{ℕ, zero, suc, ◌+◌, ◌-◌, ◌≤◌, ◌<◌}
use native.Mathlib.Omega.{arith}
use native.Mathlib.Decide.{dec_lt}
use mathlib.Core.List.{List, ◌++◌, append_assoc, append-nil}
use lib.ListN.{length, length-append}
use borrow.Author.Tests.{lt-ltb, le-ltb}
use Rattle.ring.specs.Places.{place, summed, along}

-- ---- places

module _ (p s i : ℕ) where
  pub place-low : s + i < p → place p s i ≡ s + i
  unfolding place
  place-low h = rw (lt-ltb (s + i) p h)

  pub place-high : p ≤ s + i → place p s i ≡ s + i - p
  unfolding place
  place-high h = rw (le-ltb (s + i) p h)

-- by cases
pub by_place : {A : Type 0} (p s i : ℕ) → (s + i < p → place p s i ≡ s + i → A) → (p ≤ s + i → place p s i ≡ s + i - p → A) → A
by_place {A} p s i f g = go (dec_lt (s + i) p)
  where
    go : Dec (s + i < p) → A
    go (yes h) = f h (place-low p s i h)
    go (no n) = let h : p ≤ s + i = omega arith in g h (place-high p s i h)

pub by_less : {A : Type 0} (a b : ℕ) → (a < b → A) → (b ≤ a → A) → A
by_less {A} a b f g = go (dec_lt a b)
  where
    go : Dec (a < b) → A
    go (yes h) = f h
    go (no n) = g (omega arith)

pub place_in : (p s i : ℕ) → s < p → i ≤ p → place p s i < p
place_in p s i h k = by_place p s i (λ a e. omega arith) (λ a e. omega arith)

pub place-zero : (p s : ℕ) → s < p → place p s 0 ≡ s
place-zero p s h = by_place p s 0 (λ a e. omega arith) (λ a e. omega arith)

-- index i of the ring that starts at index k
pub place-place : (p s k i : ℕ) → s < p → k + i ≤ p → place p (place p s k) i ≡ place p s (k + i)
place-place p s k i h l =
    by_place p s k
    (λ a e. rw e (by_place p (s + k) i
    (λ b f. by_place p s (k + i) (λ c g. omega arith) (λ c g. omega arith))
    (λ b f. by_place p s (k + i) (λ c g. omega arith) (λ c g. omega arith))))
    (λ a e. rw e (by_place p (s + k - p) i
    (λ b f. by_place p s (k + i) (λ c g. omega arith) (λ c g. omega arith))
    (λ b f. by_place p s (k + i) (λ c g. omega arith) (λ c g. omega arith))))

-- two indices have two places
pub place-apart : (p s i j : ℕ) → s < p → i < p → j < p → (i ≡ j → ⊥) → place p s i ≡ place p s j → ⊥
place-apart p s i j h a b d e =
    by_place p s i
    (λ c f. by_place p s j (λ u g. d (omega arith)) (λ u g. d (omega arith)))
    (λ c f. by_place p s j (λ u g. d (omega arith)) (λ u g. d (omega arith)))

-- ---- sums

-- f from index `from` on is as g from index `to` on, for n indices
abbrev pub Alike : {A : Type 0} → (ℕ → A) → (ℕ → A) → ℕ → ℕ → ℕ → Type 0
Alike f g from to n = (i j : ℕ) → from ≤ i → i < from + n → i + to ≡ j + from → f i ≡ g j

pub summed_same : (f g : ℕ → ℕ) (from to n : ℕ) → Alike f g from to n → summed f from n ≡ summed g to n
unfolding summed
summed_same f g from to zero h = refl
summed_same f g from to (suc n) h =
    let a = h from to (omega arith) (omega arith) (omega arith) in
    let b = summed_same f g (suc from) (suc to) n (λ i j x y z. h i j (omega arith) (omega arith) (omega arith)) in
    omega arith

pub summed-first : (f : ℕ → ℕ) (from n : ℕ) → summed f from (suc n) ≡ f from + summed f (suc from) n
unfolding summed
summed-first f from n = refl

pub summed_add : (f : ℕ → ℕ) (from a b : ℕ) → summed f from (a + b) ≡ summed f from a + summed f (from + a) b
unfolding summed
summed_add f from zero b = let q : 0 + b ≡ b = omega arith in let z : from + 0 ≡ from = omega arith in rw (q, z) (omega arith)
summed_add f from (suc a) b =
    let q : suc a + b ≡ suc (a + b) = omega arith in
    let z : from + suc a ≡ suc from + a = omega arith in
    let e = summed_add f (suc from) a b in
    rw (q, z) (omega arith)

-- one index more
pub summed-last : (f : ℕ → ℕ) (from n : ℕ) → summed f from (n + 1) ≡ summed f from n + f (from + n)
unfolding summed
summed-last f from n = let e = summed_add f from n 1 in omega arith

pub summed_le : (f : ℕ → ℕ) (from n : ℕ) → ((i : ℕ) → f i ≤ 1) → summed f from n ≤ n
unfolding summed
summed_le f from zero h = omega arith
summed_le f from (suc n) h = let a = h from in let b = summed_le f (suc from) n h in omega arith

-- the sum is no less than what is summed at an index
pub summed_at : (f : ℕ → ℕ) (from n i : ℕ) → from ≤ i → i < from + n → f i ≤ summed f from n
summed_at f from n i a b =
    let e : n ≡ (i - from) + suc (n - suc (i - from)) = omega arith in
    let s = ap (summed f from) e ∙ summed_add f from (i - from) (suc (n - suc (i - from))) in
    let q : from + (i - from) ≡ i = omega arith in
    let t = rw q at s in
    let u = summed-first f i (n - suc (i - from)) in
    omega arith

-- and no less than the sum over fewer
pub summed-within : (f : ℕ → ℕ) (from n k : ℕ) → n ≤ k → summed f from n ≤ summed f from k
summed-within f from n k h =
    let q : k ≡ n + (k - n) = omega arith in
    let e = ap (summed f from) q ∙ summed_add f from n (k - n) in
    omega arith

-- where each is at most 1 and they sum up to their number, each is 1
pub summed-full : (f : ℕ → ℕ) (from n : ℕ) → ((i : ℕ) → f i ≤ 1) → summed f from n ≡ n → (i : ℕ) → from ≤ i → i < from + n → f i ≡ 1
summed-full f from n h e i a b =
    let q : n ≡ (i - from) + suc (n - suc (i - from)) = omega arith in
    let s = ap (summed f from) q ∙ summed_add f from (i - from) (suc (n - suc (i - from))) in
    let z : from + (i - from) ≡ i = omega arith in
    let t = rw z at s in
    let u = summed-first f i (n - suc (i - from)) in
    let v = summed_le f from (i - from) h in
    let w = summed_le f (suc i) (n - suc (i - from)) h in
    let x = h i in
    omega arith

pub summed_all : (f : ℕ → ℕ) (from n : ℕ) → ((i : ℕ) → from ≤ i → i < from + n → f i ≡ 1) → summed f from n ≡ n
unfolding summed
summed_all f from zero h = refl
summed_all f from (suc n) h =
    let a = h from (omega arith) (omega arith) in
    let b = summed_all f (suc from) n (λ i x y. h i (omega arith) (omega arith)) in
    omega arith

pub summed_none : (f : ℕ → ℕ) (from n : ℕ) → ((i : ℕ) → from ≤ i → i < from + n → f i ≡ 0) → summed f from n ≡ 0
unfolding summed
summed_none f from zero h = refl
summed_none f from (suc n) h =
    let a = h from (omega arith) (omega arith) in
    let b = summed_none f (suc from) n (λ i x y. h i (omega arith) (omega arith)) in
    omega arith

-- ---- lists end to end

module _ {A : Type 0} where
  pub along_same : (f g : ℕ → List A) (from to n : ℕ) → Alike f g from to n → along f from n ≡ along g to n
  unfolding along
  along_same f g from to zero h = refl
  along_same f g from to (suc n) h =
      rw (h from to (omega arith) (omega arith) (omega arith), along_same f g (suc from) (suc to) n (λ i j x y z. h i j (omega arith) (omega arith) (omega arith)))

  pub along_add : (f : ℕ → List A) (from a b : ℕ) → along f from (a + b) ≡ along f from a ++ along f (from + a) b
  unfolding along
  along_add f from zero b = let q : 0 + b ≡ b = omega arith in let z : from + 0 ≡ from = omega arith in rw (q, z)
  along_add f from (suc a) b =
      let q : suc a + b ≡ suc (a + b) = omega arith in
      let z : from + suc a ≡ suc from + a = omega arith in
      rw (q, z, append_assoc) (ap (λ (x : List A). f from ++ x) (along_add f (suc from) a b))

  pub along_one : (f : ℕ → List A) (from : ℕ) → along f from 1 ≡ f from
  unfolding along
  along_one f from = append-nil (f from)

  -- one index more
  pub along-last : (f : ℕ → List A) (from n : ℕ) → along f from (n + 1) ≡ along f from n ++ f (from + n)
  along-last f from n = along_add f from n 1 ∙ rw (along_one f (from + n))

  pub along-first : (f : ℕ → List A) (from n : ℕ) → along f from (suc n) ≡ f from ++ along f (suc from) n
  unfolding along
  along-first f from n = refl

  -- the sizes need agree only where they are summed
  pub along-size : (f : ℕ → List A) (g : ℕ → ℕ) (from n : ℕ) → ((i : ℕ) → from ≤ i → i < from + n → length (f i) ≡ g i) → length (along f from n) ≡ summed g from n
  unfolding along summed
  along-size f g from zero h = refl
  along-size f g from (suc n) h =
      rw (length-append, h from (omega arith) (omega arith), along-size f g (suc from) n (λ i a b. h i (omega arith) (omega arith)))

  pub along-length : (f : ℕ → List A) (g : ℕ → ℕ) (from n : ℕ) → ((i : ℕ) → length (f i) ≡ g i) → length (along f from n) ≡ summed g from n
  along-length f g from n h = along-size f g from n (λ i a b. h i)
