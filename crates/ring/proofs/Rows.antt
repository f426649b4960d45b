-- The laws of `specs/Records.antt`, over every width. Assumes nothing.
use mathlib.Core.Path.{◌≡◌, refl, sym, ap, ◌∙◌}
use Prim.Native.Nat.{ℕ, ◌+◌, ◌*◌, ◌-◌, ◌≤◌, ◌<◌}
use native.Mathlib.Omega.{arith}
use native.Mathlib.Nat.{suc-mul, mul-le-mul_right, add-zero}
use native.Mathlib.Numerals.{add-one}
use native.Mathlib.Decide.{dec_lt}
use mathlib.Core.List.{List, [], ◌∷◌, ◌++◌, append_assoc, append-nil}
use lib.ListN.{length, take, drop, get_or, set, length-append, length-drop, take-append-drop, drop_of_length-le}
use lib.Seq.{set_split, append_snoc, take_at, drop_at, take-append-le, drop-append-le, drop-append-add, drop-drop, take-add, length-take-le, take-length, get_or-take, get_or-drop, take-take, paste, paste-suc}
use borrow.Author.Rules.{part_to_end}
use Rattle.ring.proofs.Sequences.{drop-take}
use Rattle.ring.specs.Records.{put, part, put_slot, part_slot, number_at}

pub put-length : (l : List ℕ) (at : ℕ) (x : List ℕ) → at + length x ≤ length l → length (put l at x) ≡ length l
unfolding put
put-length l at x h = rw (length-append, length-append, length-drop, length-take-le at l (omega arith)) (omega arith)

pub part_length : (l : List ℕ) (at n : ℕ) → at + n ≤ length l → length (part l at n) ≡ n
unfolding part
part_length l at n h = length-take-le n (drop at l) (rw length-drop (omega arith))

-- a number of a part
pub part_at : (l : List ℕ) (at n i : ℕ) → i < n → get_or (part l at n) i 0 ≡ get_or l (at + i) 0
unfolding part
part_at l at n i h = rw (get_or-take, get_or-drop)

-- a part of a part
pub part-part : (l : List ℕ) (at n m : ℕ) → part l at (n + m) ≡ part l at n ++ part l (at + n) m
unfolding part
part-part l at n m = rw (take-add, drop-drop)

-- two puts end to end are one
pub put-put : (l : List ℕ) (at : ℕ) (x y : List ℕ) → at + length x ≤ length l → put (put l at x) (at + length x) y ≡ put l at (x ++ y)
unfolding put
put-put l at x y h =
    let e : length (take at l ++ x) ≡ at + length x = rw (length-append, length-take-le at l (omega arith)) in
    let d : at + (length x + length y) ≡ (at + length x) + length y = omega arith in
    let f : take (at + length x) ((take at l ++ x) ++ drop (at + length x) l) ≡ take at l ++ x = take_at (take at l ++ x) _ _ e in
    let g : drop ((at + length x) + length y) ((take at l ++ x) ++ drop (at + length x) l) ≡ drop ((at + length x) + length y) l =
    rw (← e) (drop-append-add (take at l ++ x) (drop (length (take at l ++ x)) l) (length y) ∙ drop-drop (length y) (length (take at l ++ x)) l) in
    rw (length-append, ← append_assoc (take at l) x, f, g, d) (simp append_assoc)

-- ---- what was put is got, and what stands before and after it stays

module _ (l : List ℕ) (at : ℕ) (x : List ℕ) where
  pub part-own : at ≤ length l → part (put l at x) at (length x) ≡ x
  unfolding put part
  part-own h =
      rw (
        append_assoc,
        drop_at (take at l) (x ++ drop (at + length x) l) at (length-take-le at l h),
        take_at x (drop (at + length x) l) (length x) refl,
      )

  pub part_before : (q k : ℕ) → q + k ≤ at → at ≤ length l → part (put l at x) q k ≡ part l q k
  unfolding put part
  part_before q k h n = rw append_assoc (cut (x ++ drop (at + length x) l) ∙ sym (cut (drop at l)) ∙ ap (λ (y : List ℕ). take k (drop q y)) (take-append-drop at l))
    where
      cut : (y : List ℕ) → take k (drop q (take at l ++ y)) ≡ take k (drop q (take at l))
      cut y =
          let e = length-take-le at l n in
          rw (drop-append-le q (take at l) y (omega arith), take-append-le k (drop q (take at l)) y (rw length-drop (omega arith)))

  pub part_after : (q k : ℕ) → at + length x ≤ q → at ≤ length l → part (put l at x) q k ≡ part l q k
  unfolding put part
  part_after q k h n =
      let e : length (take at l ++ x) ≡ at + length x = rw (length-append, length-take-le at l n) in
      let z : q ≡ length (take at l ++ x) + (q - (at + length x)) = omega arith in
      let y : at + length x + (q - (at + length x)) ≡ q = omega arith in
      ap (λ (i : ℕ). take k (drop i (take at l ++ x ++ drop (at + length x) l))) z ∙ rw (drop-append-add, drop-drop, y)

-- ---- the same of slots of w

row_le : (w t s : ℕ) → t < s → t * w + w ≤ s * w
row_le w t s h = rw suc-mul at (mul-le-mul_right w h)

-- every slot of the list ends within it
pub row_in : (w s n : ℕ) (l : List ℕ) → length l ≡ n * w → s < n → s * w + w ≤ length l
row_in w s n l e h = let m = row_le w s n h in omega arith

module _ (w : ℕ) (l : List ℕ) (s k : ℕ) (x : List ℕ) (inside : k + length x ≤ w) (r : s * w + w ≤ length l) where
  pub put_slot-length : length (put_slot w l s k x) ≡ length l
  put_slot-length = put-length l (s * w + k) x (omega arith)

  -- what was put is got
  pub part_slot-own : part_slot w (put_slot w l s k x) s k (length x) ≡ x
  part_slot-own = part-own l (s * w + k) x (omega arith)

  -- the other slots stay
  pub part_slot-other : (t j n : ℕ) → (t ≡ s → ⊥) → j + n ≤ w → part_slot w (put_slot w l s k x) t j n ≡ part_slot w l t j n
  part_slot-other t j n d h = go (dec_lt t s)
    where
      go : Dec (t < s) → part_slot w (put_slot w l s k x) t j n ≡ part_slot w l t j n
      go (yes g) = let m = row_le w t s g in part_before l (s * w + k) x (t * w + j) n (omega arith) (omega arith)
      go (no g) = let m = row_le w s t (omega arith) in part_after l (s * w + k) x (t * w + j) n (omega arith) (omega arith)

  -- what stands before it in its own slot, and what was put behind that
  pub part_slot-joined : part_slot w (put_slot w l s k x) s 0 (k + length x) ≡ part_slot w l s 0 k ++ x
  part_slot-joined =
      let e : s * w + 0 + k ≡ s * w + k = omega arith in
      rw (
        part-part (put_slot w l s k x) (s * w + 0) k (length x),
        part_before l (s * w + k) x (s * w + 0) k (omega arith) (omega arith),
        e,
        part_slot-own,
      )

  -- the whole slot
  pub part_slot-put : part_slot w (put_slot w l s k x) s 0 w ≡ put (part_slot w l s 0 w) k x
  unfolding put part
  part_slot-put =
      let n = length x in
      let a : s * w + 0 + k ≡ s * w + k = omega arith in
      let b : w ≡ k + n + (w - (k + n)) = omega arith in
      let c : s * w + 0 + (k + n) ≡ s * w + k + n = omega arith in
      ap (part (put_slot w l s k x) (s * w + 0)) b
      ∙ part-part (put_slot w l s k x) (s * w + 0) (k + n) (w - (k + n))
      ∙ rw (
        part_slot-joined,
        part_after l (s * w + k) x (s * w + 0 + (k + n)) (w - (k + n)) (omega arith) (omega arith),
        take-take k w (drop (s * w + 0) l) (omega arith),
        drop-take (drop (s * w + 0) l) (k + n) w (omega arith) (rw length-drop (omega arith)),
        drop-drop,
      )

-- number j of a record
pub part_slot-number : (w : ℕ) (l : List ℕ) (s n j : ℕ) → j < n → get_or (part_slot w l s 0 n) j 0 ≡ number_at w l s j
part_slot-number w l s n j h = let e : s * w + 0 + j ≡ s * w + j = omega arith in part_at l (s * w + 0) n j h ∙ ap (λ (i : ℕ). get_or l i 0) e

-- ---- what copies leave

-- one number
pub put_one : (l : List ℕ) (at x : ℕ) → at < length l → set l at x ≡ put l at (x ∷ [])
unfolding put
put_one l at x h = rw (set_split l at x h, append_snoc, add-one)

-- what a copy of src to the start of the part from `at` on leaves of the whole
pub by_copy : (room src y : List ℕ) (at : ℕ) → at + length src ≤ length room
    → y ≡ take (length src) src ++ drop (length src) (take (length room - at) (drop at room))
    → take at room ++ (y ++ drop (length room - at) (drop at room)) ≡ put room at src
unfolding put
by_copy room src y at h e =
    let d = rw take-length at e in
    let z : drop (length room - at) (drop at room) ≡ [] = drop_of_length-le (drop at room) {i = length room - at} (rw length-drop (omega arith)) in
    rw (d, z, part_to_end, drop-drop, append-nil, append_assoc)

-- the same by way of an array: z is what it held, and t what it holds after the first copy
pub by_way : (room src : List ℕ) (n : ℕ) (z t y : List ℕ) (at : ℕ) → length src ≡ n → at + n ≤ length room
    → t ≡ take (length src) src ++ drop (length src) z
    → y ≡ take (length (take n t)) (take n t) ++ drop (length (take n t)) (take (length room - at) (drop at room))
    → take at room ++ (y ++ drop (length room - at) (drop at room)) ≡ put room at src
by_way room src n z t y at m h e d =
    let f : take (length src) t ≡ src = ap (λ (x : List ℕ). take (length src) x) (rw take-length at e) ∙ take_at src _ (length src) refl in
    by_copy room src y at (omega arith) (rw (← m, f) at d)

-- i of the numbers are written
pub put-turn : (l m x : List ℕ) (at i : ℕ) → at + length x ≤ length l → i < length x → m ≡ paste l at x i → set m (at + i) (get_or x i 0) ≡ paste l at x (i + 1)
put-turn l m x at i h k e = rw (e, add-one) (paste-suc l at x i 0 (omega arith) k)

pub put-end : (l m x : List ℕ) (at : ℕ) → m ≡ paste l at x (length x) → m ≡ put l at x
unfolding put
put-end l m x at e = rw (take-length x) at e

-- x copied over the k numbers from `at` on
pub put_over : (l x y : List ℕ) (at k : ℕ) → y ≡ x → k ≡ length x → take at l ++ (y ++ drop k (drop at l)) ≡ put l at x
unfolding put
put_over l x y at k e n = rw (e, n, drop-drop, append_assoc)

-- the n numbers that a range gives
pub part_range : (l : List ℕ) (at n : ℕ) → take (at + n - at) (drop at l) ≡ part l (at + 0) n
unfolding part
part_range l at n = let e : at + n - at ≡ n = omega arith in rw (e, add-zero)
