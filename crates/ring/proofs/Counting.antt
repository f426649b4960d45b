-- The laws of `specs/Counting.antt`: one word, a run of places, and the indices of a ring, which are one run of places or two. Assumes nothing.
use mathlib.Core.Path.{◌≡◌, refl, sym, ap, ◌∙◌}
use Prim.Native.Nat.{ℕ, ◌+◌, ◌-◌, ◌≤◌, ◌<◌}
use native.Mathlib.Omega.{arith}
use native.Mathlib.Decide.{dec_le}
use mathlib.Core.Bool.{Bool, true, false, cond}
use mathlib.Core.List.{List}
use lib.Dec.{leb}
use lib.ListN.{length, get_or, take, drop, length-drop}
use lib.Seq.{get_or-take, get_or-drop, length-take-le}
use mir.Val.{bool_byte}
use borrow.Author.Tests.{le-leb, lt-leb}
use Rattle.ring.specs.Places.{place, summed}
use Rattle.ring.specs.Counting.{at_least, count_in, word_at, count}
use Rattle.ring.proofs.Places.{by_place, summed_same, summed_add, summed-last, summed_le, summed_at, summed-full, summed_all, summed_none}

-- ---- one word

module _ (bound x : ℕ) where
  pub least_yes : bound ≤ x → at_least bound x ≡ 1
  unfolding at_least
  least_yes h = rw (le-leb bound x h)

  pub least_no : x < bound → at_least bound x ≡ 0
  unfolding at_least
  least_no h = rw (lt-leb bound x h)

  -- by cases
  pub by-least : {A : Type 0} → (x < bound → at_least bound x ≡ 0 → A) → (bound ≤ x → at_least bound x ≡ 1 → A) → A
  by-least {A} f g = go (dec_le bound x)
    where
      go : Dec (bound ≤ x) → A
      go (yes h) = g h (least_yes h)
      go (no n) = let h : x < bound = omega arith in f h (least_no h)

pub least_le : (bound x : ℕ) → at_least bound x ≤ 1
least_le bound x = by-least bound x (λ h e. omega arith) (λ h e. omega arith)

-- ---- a run of places, and one place more

-- as the code has it: a test as a number
pub by_bool : (bound x : ℕ) → bool_byte (leb bound x) ≡ at_least bound x
unfolding at_least
by_bool bound x = elim (leb bound x) as (λ (t : Bool). bool_byte t ≡ cond t 1 0) [ true ↦ refl | false ↦ refl ]

module _ (bound : ℕ) (l : List ℕ) where
  pub in_none : count_in bound l 0 0 ≡ 0
  unfolding count_in summed
  in_none = refl

  pub in_more : (i : ℕ) → count_in bound l 0 (i + 1) ≡ count_in bound l 0 i + at_least bound (get_or l i 0)
  unfolding count_in
  in_more i =
      let q : 0 + i ≡ i = omega arith in
      let f : ℕ → ℕ = λ (i : ℕ). at_least bound (get_or l i 0) in
      summed-last f 0 i ∙ ap (λ (x : ℕ). summed f 0 i + f x) q

  -- of a part, which is a run of the whole
  pub in_part : (from n : ℕ) → count_in bound (take n (drop from l)) 0 n ≡ count_in bound l from n
  unfolding count_in
  in_part from n =
      summed_same (λ (i : ℕ). at_least bound (get_or (take n (drop from l)) i 0)) (λ (i : ℕ). at_least bound (get_or l i 0)) 0 from n
      (λ i j x y z.
      let q : from + i ≡ j = omega arith in
      let k : i < n = omega arith in ap (at_least bound) (rw (get_or-take, get_or-drop, q)))

module _ (bound : ℕ) (l : List ℕ) (from : ℕ) where
  pub in_le : (n : ℕ) → count_in bound l from n ≤ n
  unfolding count_in
  in_le n = summed_le (λ (i : ℕ). at_least bound (get_or l i 0)) from n (λ i. least_le bound (get_or l i 0))

pub ruleset of_run = (in_none, in_more, in_le, by_bool, least_le)

-- ---- the indices are one run of places or two

module _ (g : ℕ → ℕ) (p s from n : ℕ) (h : s < p) (k : from + n ≤ p) where
  one-run : n ≤ p - place p s from → summed (λ (i : ℕ). g (place p s i)) from n ≡ summed g (place p s from) n
  one-run a =
      summed_same (λ (i : ℕ). g (place p s i)) g from (place p s from) n
      (λ i j x y z. ap g
      (by_place p s from
      (λ b e. by_place p s i (λ d f. omega arith) (λ d f. omega arith))
      (λ b e. by_place p s i (λ d f. omega arith) (λ d f. omega arith))))

  two_runs : p - place p s from < n
      → summed (λ (i : ℕ). g (place p s i)) from n ≡ summed g (place p s from) (p - place p s from) + summed g 0 (n - (p - place p s from))
  two_runs a =
      let e : n ≡ (p - place p s from) + (n - (p - place p s from)) = omega arith in
      let u = ap (summed (λ (i : ℕ). g (place p s i)) from) e ∙ summed_add (λ (i : ℕ). g (place p s i)) from (p - place p s from) (n - (p - place p s from)) in
      let v =
      summed_same (λ (i : ℕ). g (place p s i)) g from (place p s from) (p - place p s from)
      (λ i j x y z. ap g
      (by_place p s from
      (λ b e. by_place p s i (λ d f. omega arith) (λ d f. omega arith))
      (λ b e. by_place p s i (λ d f. omega arith) (λ d f. omega arith)))) in
      let w =
      summed_same (λ (i : ℕ). g (place p s i)) g (from + (p - place p s from)) 0 (n - (p - place p s from))
      (λ i j x y z. ap g
      (by_place p s from
      (λ b e. by_place p s i (λ d f. omega arith) (λ d f. omega arith))
      (λ b e. by_place p s i (λ d f. omega arith) (λ d f. omega arith)))) in
      omega arith

module _ (bound : ℕ) (l : List ℕ) (s from n a : ℕ) (h : s < length l) (k : from + n ≤ length l) (e : a ≡ place (length l) s from) where
  pub count_one : n ≤ length l - a → count_in bound (take (a + n - a) (drop a l)) 0 (length (take (a + n - a) (drop a l))) ≡ count bound l s from n
  unfolding count count_in
  count_one b =
      let z : a + n - a ≡ n = omega arith in
      let m : length (take n (drop a l)) ≡ n = length-take-le n (drop a l) (rw length-drop b) in
      rw (z, m) (in_part bound l a n ∙ rw e (sym (one-run (λ (i : ℕ). at_least bound (get_or l i 0)) (length l) s from n h k (omega arith))))

  pub count_two : length l - a < n
      → count_in bound (take (length l - a) (drop a l)) 0 (length (take (length l - a) (drop a l)))
      + count_in bound (take (n - (length l - a)) l) 0 (length (take (n - (length l - a)) l)) ≡ count bound l s from n
  unfolding count count_in
  count_two b =
      let m : length (take (length l - a) (drop a l)) ≡ length l - a = length-take-le (length l - a) (drop a l) (rw length-drop (omega arith)) in
      let w : length (take (n - (length l - a)) l) ≡ n - (length l - a) = length-take-le (n - (length l - a)) l (omega arith) in
      let x = in_part bound l a (length l - a) in
      let y = in_part bound l 0 (n - (length l - a)) in
      let r = two_runs (λ (i : ℕ). at_least bound (get_or l i 0)) (length l) s from n h k (omega arith) in
      let q = rw (← e) at r in rw (m, w) (omega (arith, q))

pub ruleset of_runs = (count_one, count_two)

-- ---- what a count says of each index

module _ (bound : ℕ) (l : List ℕ) (s from n : ℕ) where
  -- none is at least the bound
  pub count_under : count bound l s from n ≡ 0 → (i : ℕ) → from ≤ i → i < from + n → word_at l s i < bound
  unfolding count
  count_under z i a b =
      let h = summed_at (λ (i : ℕ). at_least bound (word_at l s i)) from n i a b in
      by-least bound (word_at l s i) (λ x e. x) (λ x e. absurd (omega arith))

  pub under-count : ((i : ℕ) → from ≤ i → i < from + n → word_at l s i < bound) → count bound l s from n ≡ 0
  unfolding count
  under-count h = summed_none (λ (i : ℕ). at_least bound (word_at l s i)) from n (λ i a b. least_no bound (word_at l s i) (h i a b))

  -- all are
  pub count_all : count bound l s from n ≡ n → (i : ℕ) → from ≤ i → i < from + n → bound ≤ word_at l s i
  unfolding count
  count_all e i a b =
      let h = summed-full (λ (i : ℕ). at_least bound (word_at l s i)) from n (λ i. least_le bound (word_at l s i)) e i a b in
      by-least bound (word_at l s i) (λ x y. absurd (omega arith)) (λ x y. x)

  pub all-count : ((i : ℕ) → from ≤ i → i < from + n → bound ≤ word_at l s i) → count bound l s from n ≡ n
  unfolding count
  all-count h = summed_all (λ (i : ℕ). at_least bound (word_at l s i)) from n (λ i a b. least_yes bound (word_at l s i) (h i a b))

  pub count_le : count bound l s from n ≤ n
  unfolding count
  count_le = summed_le (λ (i : ℕ). at_least bound (word_at l s i)) from n (λ i. least_le bound (word_at l s i))

-- ---- indices in parts

module _ (bound : ℕ) (l : List ℕ) (s : ℕ) where
  pub count_add : (from a b : ℕ) → count bound l s from (a + b) ≡ count bound l s from a + count bound l s (from + a) b
  unfolding count
  count_add from a b = summed_add (λ (i : ℕ). at_least bound (word_at l s i)) from a b

  pub count_none : (from : ℕ) → count bound l s from 0 ≡ 0
  unfolding count summed
  count_none from = refl

  pub count_single : (i : ℕ) → count bound l s i 1 ≡ at_least bound (word_at l s i)
  unfolding count summed
  count_single i = omega arith

-- two rings whose words are alike
pub count_same : (bound : ℕ) (l m : List ℕ) (s t from to n : ℕ) → ((i j : ℕ) → from ≤ i → i < from + n → i + to ≡ j + from → word_at l s i ≡ word_at m t j)
    → count bound l s from n ≡ count bound m t to n
unfolding count
count_same bound l m s t from to n h =
    summed_same (λ (i : ℕ). at_least bound (word_at l s i)) (λ (i : ℕ). at_least bound (word_at m t i)) from to n (λ i j x y z. ap (at_least bound) (h i j x y z))
