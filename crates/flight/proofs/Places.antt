-- The places of a ring's indices as a list: they lie within the slots, no two are one, and they are one run, or two round the ring's end. What is seen
-- along the indices is what stands at the places. Assumes nothing.
use Prim.Native.Nat.{ℕ, zero, suc, ◌+◌, ◌-◌, ◌≤◌, ◌<◌}
use native.Mathlib.Omega.{arith}
use native.Mathlib.Numerals.{add-one}
use mathlib.Core.Path.{◌≡◌, refl, sym, ap, ◌∙◌}
use mathlib.Core.List.{List, [], ◌∷◌, ◌++◌, append_assoc, append-nil}
use lib.ListN.{length}
use Rattle.ring.specs.Places.{place, along}
use Rattle.ring.proofs.Places.{place-low, place-high, by_place, place_in, place-apart}
use Rattle.snd_ring.specs.Store.{Store, cell, seen}
use Rattle.flight.specs.Places.{places_of, run_of, over, Each, Covers}

-- ---- lists of places

-- each under p
abbrev pub Below : ℕ → List ℕ → Type 0
Below p qs = Each (λ (q : ℕ). q < p) qs

-- none is t
abbrev pub Apart : ℕ → List ℕ → Type 0
Apart t qs = Each (λ (q : ℕ). q ≡ t → ⊥) qs

-- no two are one
abbrev pub Once : List ℕ → Type 0
Once [] = Unit {0}
Once (q ∷ qs) = Apart q qs × Once qs

pub each_append : (P : ℕ → Type 0) (a b : List ℕ) → Each P (a ++ b) → Each P a × Each P b
each_append P [] b h = (tt, h)
each_append P (q ∷ a) b h = let i = each_append P a b h.1 in ((h.0, i.0), i.1)

module _ {A : Type 0} where
  pub over_append : (f : ℕ → List A) (a b : List ℕ) → over f (a ++ b) ≡ over f a ++ over f b
  unfolding over
  over_append f [] b = refl
  over_append f (q ∷ a) b = rw (over_append f a b) (sym (append_assoc (f q) (over f a) (over f b)))

  pub over_first : (f : ℕ → List A) (q : ℕ) (qs : List ℕ) → over f (q ∷ qs) ≡ f q ++ over f qs
  unfolding over
  over_first f q qs = refl

  -- f and g agree but at t
  pub over-apart : (f g : ℕ → List A) (t : ℕ) (qs : List ℕ) → Apart t qs → ((q : ℕ) → (q ≡ t → ⊥) → f q ≡ g q) → over f qs ≡ over g qs
  unfolding over
  over-apart f g t [] a h = refl
  over-apart f g t (q ∷ qs) a h = rw (h q a.0, over-apart f g t qs a.1 h)

-- ---- those of a ring

module _ (p s : ℕ) where
  pub places-first : (from n : ℕ) → places_of p s from (suc n) ≡ place p s from ∷ places_of p s (suc from) n
  unfolding places_of
  places-first from n = refl

  pub places_none : (from : ℕ) → places_of p s from 0 ≡ []
  unfolding places_of
  places_none from = refl

  -- one index less, and none
  module _ (from k i : ℕ) where
    pub places-next : i < k → places_of p s (from + i) (k - i) ≡ place p s (from + i) ∷ places_of p s (from + (i + 1)) (k - (i + 1))
    places-next h =
        let e : k - i ≡ suc (k - (i + 1)) = omega arith in
        let f : suc (from + i) ≡ from + (i + 1) = omega arith in
        rw (e, ← f) (places-first (from + i) (k - (i + 1)))

    pub places-end : k ≤ i → places_of p s (from + i) (k - i) ≡ []
    places-end h = let e : k - i ≡ 0 = omega arith in rw e (places_none (from + i))

  pub places_add : (from a b : ℕ) → places_of p s from (a + b) ≡ places_of p s from a ++ places_of p s (from + a) b
  unfolding places_of
  places_add from zero b = let e : 0 + b ≡ b = omega arith in let z : from + 0 ≡ from = omega arith in rw (e, z)
  places_add from (suc a) b =
      let e : suc a + b ≡ suc (a + b) = omega arith in
      let z : from + suc a ≡ suc from + a = omega arith in
      rw (e, z) (ap (λ (l : List ℕ). place p s from ∷ l) (places_add (suc from) a b))

  -- what holds of the place of each index holds of each of them
  pub places_each : (P : ℕ → Type 0) (from n : ℕ) → ((i : ℕ) → from ≤ i → i < from + n → P (place p s i)) → Each P (places_of p s from n)
  unfolding places_of
  places_each P from zero h = tt
  places_each P from (suc n) h = (h from (omega arith) (omega arith), places_each P (suc from) n (λ i a b. h i (omega arith) (omega arith)))

  module _ (inside : s < p) where
    pub places_below : (from n : ℕ) → from + n ≤ p → Below p (places_of p s from n)
    places_below from n h = places_each (λ (q : ℕ). q < p) from n (λ i a b. place_in p s i inside (omega arith))

    -- an index that is not among them has another place
    pub places-apart : (i from n : ℕ) → from + n ≤ p → i < p → (from ≤ i → i < from + n → ⊥) → Apart (place p s i) (places_of p s from n)
    places-apart i from n h k d =
        places_each (λ (q : ℕ). q ≡ place p s i → ⊥) from n (λ j a b. place-apart p s j i inside (omega arith) k (λ e. d (omega arith) (omega arith)))

    pub places-once : (from n : ℕ) → from + n ≤ p → Once (places_of p s from n)
    unfolding places_of
    places-once from zero h = tt
    places-once from (suc n) h = (places-apart from (suc from) n (omega arith) (omega arith) (λ a b. omega arith), places-once (suc from) n (omega arith))

-- ---- runs

pub run-first : (q n : ℕ) → run_of q (suc n) ≡ q ∷ run_of (suc q) n
unfolding run_of
run-first q n = refl

-- one place less, and none
module _ (q to : ℕ) where
  pub run-next : q < to → run_of q (to - q) ≡ q ∷ run_of (q + 1) (to - (q + 1))
  unfolding run_of
  run-next h = let e : to - q ≡ suc (to - (q + 1)) = omega arith in rw (e, add-one)

  pub run_end : to ≤ q → run_of q (to - q) ≡ []
  unfolding run_of
  run_end h = let e : to - q ≡ 0 = omega arith in rw e

pub each_next : (P : ℕ → Type 0) (q to : ℕ) → q < to → Each P (run_of q (to - q)) → P q × Each P (run_of (q + 1) (to - (q + 1)))
each_next P q to h e = rw (run-next q to h) at e

pub run_all : (n : ℕ) → run_of 0 (n - 0) ≡ run_of 0 n
run_all n = let e : n - 0 ≡ n = omega arith in rw e

module _ (p s : ℕ) where
  low_run : (from n : ℕ) → s + from + n ≤ p → places_of p s from n ≡ run_of (s + from) n
  unfolding places_of run_of
  low_run from zero h = refl
  low_run from (suc n) h =
      let e : s + suc from ≡ suc (s + from) = omega arith in
      rw (place-low p s from (omega arith), low_run (suc from) n (omega arith), e)

  high-run : (from n : ℕ) → p ≤ s + from → places_of p s from n ≡ run_of (s + from - p) n
  unfolding places_of run_of
  high-run from zero h = refl
  high-run from (suc n) h =
      let e : s + suc from - p ≡ suc (s + from - p) = omega arith in
      rw (place-high p s from h, high-run (suc from) n (omega arith), e)

  -- q is the place of the first of them
  module _ (inside : s < p) (from n : ℕ) (many : from + n ≤ p) {q : ℕ} (e : q ≡ place p s from) where
    pub one-run : q + n ≤ p → places_of p s from n ≡ run_of q n
    one-run h =
        by_place p s from
        (λ a f. low_run from n (omega arith) ∙ rw (e, f))
        (λ a f. high-run from n a ∙ rw (e, f))

    pub two_runs : p < q + n → places_of p s from n ≡ run_of q (p - q) ++ run_of 0 (n - (p - q))
    two_runs h =
        by_place p s from
        (λ a f.
        let d : n ≡ (p - q) + (n - (p - q)) = omega arith in
        let g : s + (from + (p - q)) - p ≡ 0 = omega arith in
        ap (places_of p s from) d ∙ places_add p s from (p - q) (n - (p - q))
        ∙ rw (low_run from (p - q) (omega arith), high-run (from + (p - q)) (n - (p - q)) (omega arith), g, e, f))
        (λ a f. absurd (omega arith))

-- ---- `runs_of`

module _ (p s from n : ℕ) (inside : s < p) (many : from + n ≤ p) {q : ℕ} (e : (q ≡ place p s from) × (q < p)) where
  no-rest : run_of 0 0 ≡ []
  unfolding run_of
  no-rest = refl

  pub covers_one : n ≤ p - q → Covers p s from n (record { from = q; to = q + n; rest = 0 })
  covers_one h =
      let d : q + n - q ≡ n = omega arith in
      record {
        places = one-run p s inside from n many e.0 (omega arith) ∙ rw (d, no-rest) (sym (append-nil (run_of q n)));
        low = omega arith;
        high = omega arith;
        behind = omega arith;
        sum = omega arith;
      }

  pub covers_two : p - q < n → Covers p s from n (record { from = q; to = p; rest = n - (p - q) })
  covers_two h =
      record { places = two_runs p s inside from n many e.0 (omega arith); low = omega arith; high = omega arith; behind = omega arith; sum = omega arith }

-- ---- what is seen along the indices

module _ (w : ℕ) (m : Store) (s : ℕ) where
  pub seen-places : (from n : ℕ) → seen w m s from n ≡ over (cell w m) (places_of (length m.marks) s from n)
  unfolding seen along places_of over
  seen-places from zero = refl
  seen-places from (suc n) = ap (λ l. cell w m (place (length m.marks) s from) ++ l) (seen-places (suc from) n)
