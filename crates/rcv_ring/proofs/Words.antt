-- A slot's word, and what clearing and storing leave of the words along the ring. Assumes nothing.
use Prim.Native.Nat.{ℕ, zero, suc, ◌+◌, ◌-◌, ◌≤◌, ◌<◌}
use native.Mathlib.Omega.{arith}
use native.Mathlib.Nat.{add-zero, zero-add}
use native.Mathlib.Numerals.{add-one}
use mathlib.Core.Path.{◌≡◌, refl, sym, ap, ◌∙◌}
use mathlib.Core.Bool.{not}
use mathlib.Core.List.{List, [], ◌∷◌, ◌++◌, append-nil}
use lib.ListN.{length, set, length-set, take, drop, length-drop, replicate, length-replicate, take-append-drop}
use lib.Dec.{leb, eqb}
use borrow.Author.Tests.{le-leb, lt-leb, eq-eqb, ne_eqb}
use lib.Seq.{get_or-set_same, get_or-set_other, length-take-le}
use Rattle.ring.specs.Lists.{Lists, lists}
use Rattle.ring.specs.Places.{place}
use Rattle.ring.specs.Records.{put, put_slot}
use Rattle.ring.specs.Counting.{word_at}
use Rattle.ring.proofs.Rows.{put_one, put-put, put_over}
use Rattle.ring.proofs.Places.{by_less, by_place, place-low, place_in, place-apart}
use Rattle.rcv_ring.specs.declared.RcvRing.{RcvRing}
use Rattle.rcv_ring.specs.Words.{mark_of, frg_of, word}
use Rattle.rcv_ring.specs.Moves.{cleared, stored_at}

-- ---- what a word says

pub word-mark : (frg n : ℕ) → frg < 65536 → mark_of (word frg n) ≡ n + 1
word-mark frg n h = omega arith

pub word-frg : (frg n : ℕ) → frg < 65536 → frg_of (word frg n) ≡ frg
word-frg frg n h = omega arith

-- a word of 65,536 or more is a segment
pub marked_is : (w : ℕ) → leb 65536 w ≡ not (eqb (mark_of w) 0)
marked_is w =
    by_less w 65536 (λ h. rw (lt-leb 65536 w h, eq-eqb (mark_of w) 0 (omega arith))) (λ h. rw (le-leb 65536 w h, ne_eqb (mark_of w) 0 (λ z. omega arith)))

-- ---- a run of places

pub cleared_off : (start i n k : ℕ) (l : List ℕ) → n ≤ k → l ≡ cleared start i (n - k) l
unfolding cleared
cleared_off start i n k l h = let e : n - k ≡ 0 = omega arith in rw e

zeros_put : (a n : ℕ) (l : List ℕ) → a + n ≤ length l → put l a (replicate n 0) ≡ cleared 0 a n l
unfolding cleared put
zeros_put a zero l h = rw (append-nil, add-zero, take-append-drop)
zeros_put a (suc n) l h =
    let p : place (length l) 0 a ≡ a = place-low (length l) 0 a (omega arith) ∙ zero-add a in
    let q : length (set l a 0) ≡ length l = length-set l a 0 in
    rw p (sym (put-put l a (0 ∷ []) (replicate n 0) (omega arith)) ∙ rw (← put_one l a 0 (omega arith), add-one) (zeros_put (suc a) n (set l a 0) (omega arith)))

-- as the code fills it
pub filled_run : (l y : List ℕ) (a k n : ℕ) → y ≡ replicate (length (take k (drop a l))) 0 → k ≡ n → a + n ≤ length l
    → take a l ++ (y ++ drop k (drop a l)) ≡ cleared 0 a n l
filled_run l y a k n e f h =
    let m : length (take k (drop a l)) ≡ n = rw f (length-take-le n (drop a l) (rw length-drop (omega arith))) in
    put_over l (replicate n 0) y a k (e ∙ ap (λ (q : ℕ). replicate q 0) m) (f ∙ sym (length-replicate n 0)) ∙ zeros_put a n l h

-- ---- `clear`: its indices are one run of places or two

-- the same places by other indices, and indices in parts
pub cleared_same : (s t i j n : ℕ) (l : List ℕ) → ((k : ℕ) → k < n → place (length l) s (i + k) ≡ place (length l) t (j + k)) → cleared s i n l ≡ cleared t j n l
unfolding cleared
cleared_same s t i j zero l h = refl
cleared_same s t i j (suc n) l h =
    let e : place (length l) s i ≡ place (length l) t j = simp add-zero at (h 0 (omega arith)) in
    rw e
    (cleared_same s t (suc i) (suc j) n (set l (place (length l) t j) 0)
    (λ k a. let p : suc i + k ≡ i + suc k = omega arith in let q : suc j + k ≡ j + suc k = omega arith in rw (length-set, p, q) (h (suc k) (omega arith))))

pub cleared_add : (s i a b : ℕ) (l : List ℕ) → cleared s i (a + b) l ≡ cleared s (i + a) b (cleared s i a l)
unfolding cleared
cleared_add s i zero b l = rw (zero-add, add-zero)
cleared_add s i (suc a) b l =
    let q : suc a + b ≡ suc (a + b) = omega arith in
    let z : i + suc a ≡ suc i + a = omega arith in
    rw (q, z) (cleared_add s (suc i) a b (set l (place (length l) s i) 0))

pub cleared-length : (start i n : ℕ) (l : List ℕ) → length (cleared start i n l) ≡ length l
unfolding cleared
cleared-length start i zero l = refl
cleared-length start i (suc n) l = cleared-length start (suc i) n (set l (place (length l) start i) 0) ∙ length-set l (place (length l) start i) 0

run : (l : List ℕ) (s i a n : ℕ) → s < length l → i + n ≤ length l → a + n ≤ length l → a ≡ place (length l) s i → cleared 0 a n l ≡ cleared s i n l
run l s i a n h k u e =
    cleared_same 0 s a i n l
    (λ q z. place-low (length l) 0 (a + q) (omega arith)
    ∙ by_place (length l) s i
    (λ x f. by_place (length l) s (i + q) (λ y g. omega arith) (λ y g. omega arith))
    (λ x f. by_place (length l) s (i + q) (λ y g. omega arith) (λ y g. omega arith)))

-- where the ring goes round its end
round : (p s i a : ℕ) → s < p → a ≡ place p s i → i + (p - a) ≤ p → 0 ≡ place p s (i + (p - a))
round p s i a h e k =
    by_place p s i (λ x u. by_place p s (i + (p - a)) (λ y v. omega arith) (λ y v. omega arith)) (λ x u. by_place p s (i + (p - a)) (λ y v. omega arith) (λ y v. omega arith))

module _ (l : List ℕ) (s i n a : ℕ) (h : s < length l) (k : i + n ≤ length l) (e : a ≡ place (length l) s i) where
  pub clear_one : n ≤ length l - a → cleared 0 a n l ≡ cleared s i n l
  clear_one b = let f = place_in (length l) s i h (omega arith) in run l s i a n h k (omega arith) e

  pub clear_two : length l - a < n → cleared 0 0 (n - (length l - a)) (cleared 0 a (length l - a) l) ≡ cleared s i n l
  clear_two b =
      let f = place_in (length l) s i h (omega arith) in
      let m = length l - a in
      let z : n ≡ m + (n - m) = omega arith in
      let g = cleared-length s i m l in
      let v : 0 ≡ place (length (cleared s i m l)) s (i + m) = rw g (round (length l) s i a h e (omega arith)) in
      rw (run l s i a m h (omega arith) (omega arith) e) (run (cleared s i m l) s (i + m) 0 (n - m) (omega arith) (omega arith) (omega arith) v)
      ∙ sym (ap (λ (x : ℕ). cleared s i x l) z ∙ cleared_add s i m (n - m) l)

-- ---- the word at an index, once another is set or indices are cleared

module _ (l : List ℕ) (start : ℕ) (started : start < length l) (n : ℕ) (size : n ≡ length l) where
  pub set_own : (i x : ℕ) → i < length l → word_at (set l (place n start i) x) start i ≡ x
  set_own i x h = rw (length-set, size) (get_or-set_same l (place (length l) start i) x 0 (place_in (length l) start i started (omega arith)))

  pub set_other : (i j x : ℕ) → i < length l → j < length l → (j ≡ i → ⊥) → word_at (set l (place n start i) x) start j ≡ word_at l start j
  set_other i j x h k n = rw (length-set, size) (get_or-set_other l (place (length l) start i) (place (length l) start j) x 0 (place-apart (length l) start j i started k h n))

-- outside they stay
pub cleared-out : (start i n : ℕ) (l : List ℕ) (j : ℕ) → start < length l → i + n ≤ length l → j < length l → (i ≤ j → j < i + n → ⊥) → word_at (cleared start i n l) start j ≡ word_at l start j
unfolding cleared
cleared-out start i zero l j s w h o = refl
cleared-out start i (suc n) l j s w h o =
    let e = length-set l (place (length l) start i) 0 in
    cleared-out start (suc i) n (set l (place (length l) start i) 0) j (omega arith) (omega arith) (omega arith) (λ a b. o (omega arith) (omega arith))
    ∙ set_other l start s (length l) refl i j 0 (omega arith) h (λ q. o (omega arith) (omega arith))

-- inside they are 0
pub cleared_in : (start i n : ℕ) (l : List ℕ) (j : ℕ) → start < length l → i + n ≤ length l → i ≤ j → j < i + n → word_at (cleared start i n l) start j ≡ 0
unfolding cleared
cleared_in start i zero l j s w a b = absurd (omega arith)
cleared_in start i (suc n) l j s w a b =
    let m = set l (place (length l) start i) 0 in
    let e = length-set l (place (length l) start i) 0 in
    let f = cleared-out start (suc i) n m i (omega arith) (omega arith) (omega arith) (λ p q. omega arith) ∙ set_own l start s (length l) refl i 0 (omega arith) in
    by_less i j
    (λ k. cleared_in start (suc i) n m j (omega arith) (omega arith) k (omega arith))
    (λ k. let q : j ≡ i = omega arith in rw q f)

-- ---- `store`: what its steps leave is what it says

pub store_is : (r : RcvRing) (l : Lists) (d frg : ℕ) (x m room : List ℕ) (p : ℕ) → m ≡ cleared r.start (r.queued + r.reach) (d - r.reach) l.records
    → p ≡ place (length m) r.start (r.queued + d) → room ≡ put_slot 1476 l.room p 0 x
    → lists (set m p (word frg (length x))) room ≡ stored_at r l d frg x
unfolding stored_at
store_is r l d frg x m room p e f g =
    let q : p ≡ place (length l.records) r.start (r.queued + d) =
    f ∙ ap (λ (n : ℕ). place n r.start (r.queued + d)) (ap length e ∙ cleared-length r.start (r.queued + r.reach) (d - r.reach) l.records) in
    rw (e, g, q)
