-- The laws of `specs/Sequences.antt`, and of a list that is mixed of two. Assumes nothing.
use mathlib.Core.Path.{◌≡◌, refl, ap, ◌∙◌}
use Prim.Native.Nat.{ℕ, zero, suc, ◌+◌, ◌-◌, ◌≤◌, ◌<◌}
use native.Mathlib.Nat.{le_of_suc-le-suc, not-suc-le-zero}
use native.Mathlib.Omega.{arith}
use native.Mathlib.Numerals.{add-one}
use mathlib.Core.List.{List, [], ◌∷◌, ◌++◌, map, append-nil}
use lib.ListN.{length, take, drop, get_or, set, length-append, length-drop, drop_of_length-le}
use lib.Seq.{length-take-le, take-add, take_all, drop_at}
use Rattle.ring.specs.Sequences.{removed, inserted}

module _ {A : Type 0} where
  pub length_inserted : (l : List A) (i : ℕ) (x : A) → i ≤ length l → length (inserted l i x) ≡ suc (length l)
  unfolding inserted
  length_inserted l i x h = rw (length-append, length-drop, length-take-le i l h) (omega arith)

pub length_removed : {A : Type 0} (l : List A) (i : ℕ) → i < length l → suc (length (removed l i)) ≡ length l
unfolding removed
length_removed [] i h = absurd (not-suc-le-zero h)
length_removed (x ∷ l) zero h = refl
length_removed (x ∷ l) (suc i) h = ap suc (length_removed l i (le_of_suc-le-suc h))

module _ {A B : Type 0} (f : A → B) where
  pub map_append : (x y : List A) → map f (x ++ y) ≡ map f x ++ map f y
  map_append [] y = refl
  map_append (a ∷ x) y = ap (λ (r : List B). f a ∷ r) (map_append x y)

  pub map-take : (n : ℕ) (l : List A) → map f (take n l) ≡ take n (map f l)
  map-take zero l = refl
  map-take (suc n) [] = refl
  map-take (suc n) (x ∷ l) = ap (λ (r : List B). f x ∷ r) (map-take n l)

  pub map-drop : (n : ℕ) (l : List A) → map f (drop n l) ≡ drop n (map f l)
  map-drop zero l = refl
  map-drop (suc n) [] = refl
  map-drop (suc n) (x ∷ l) = map-drop n l

  pub map-inserted : (l : List A) (j : ℕ) (x : A) → map f (inserted l j x) ≡ inserted (map f l) j (f x)
  unfolding inserted
  map-inserted l j x = rw (map_append, map-take, map-drop)

  pub map-removed : (l : List A) (i : ℕ) → map f (removed l i) ≡ removed (map f l) i
  unfolding removed
  map-removed l i = rw (map_append, map-take, map-drop)

-- ---- r up to index i, and l from there on

up : (r l : List ℕ) (i : ℕ) → i < length r → i < length l → set (take i r ++ drop i l) i (get_or r i 0) ≡ take (suc i) r ++ drop (suc i) l
up [] l i h k = absurd (not-suc-le-zero h)
up (x ∷ r) [] i h k = absurd (not-suc-le-zero k)
up (x ∷ r) (y ∷ l) zero h k = refl
up (x ∷ r) (y ∷ l) (suc i) h k = ap (λ (t : List ℕ). x ∷ t) (up r l i (le_of_suc-le-suc h) (le_of_suc-le-suc k))

unfoldable pub mixed : List ℕ → List ℕ → ℕ → List ℕ
mixed r l i = take i r ++ drop i l

pub mixed_none : (r l : List ℕ) → l ≡ mixed r l 0
unfolding mixed
mixed_none r l = refl

pub mixed_more : (r l m : List ℕ) (i : ℕ) → i < length r → i < length l → m ≡ mixed r l i → set m i (get_or r i 0) ≡ mixed r l (i + 1)
unfolding mixed
mixed_more r l m i h k e = rw (e, add-one) (up r l i h k)

pub mixed_all : (r l : List ℕ) (i : ℕ) → length r ≤ i → length l ≤ i → mixed r l i ≡ r
unfolding mixed
mixed_all r l i h k = rw (take_all i r h, drop_of_length-le l k) (append-nil r)

-- a part from k on of the first a
pub drop-take : (l : List ℕ) (k a : ℕ) → k ≤ a → a ≤ length l → drop k (take a l) ≡ take (a - k) (drop k l)
drop-take l k a h n =
    let q : a ≡ k + (a - k) = omega arith in
    ap (λ (m : ℕ). drop k (take m l)) q ∙ rw (take-add k (a - k) l, drop_at (take k l) _ k (length-take-le k l (omega arith)))
