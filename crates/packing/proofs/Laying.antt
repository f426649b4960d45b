-- What is put into a lent list end to end, said from where it stands: what is still to be put, and what the list comes to. Of bytes and of lengths
-- alike. Assumes nothing.
use Prim.Native.Nat.{ℕ, ◌+◌, ◌-◌, ◌≤◌}
use native.Mathlib.Nat.{add-zero, zero-add}
use native.Mathlib.Omega.{arith}
use mathlib.Core.Path.{◌≡◌, refl, sym, ap, ◌∙◌}
use mathlib.Core.List.{List, [], ◌++◌, append-nil}
use lib.ListN.{length, take, drop, length-append, take-append-drop}
use lib.Seq.{length-take-le, take-length, take_at}
use Rattle.ring.specs.Records.{put}
use Rattle.ring.proofs.Rows.{put-put, put-length}

pub put_none : (l : List ℕ) (at : ℕ) → put l at [] ≡ l
unfolding put
put_none l at = rw (add-zero, append-nil, take-append-drop)

-- what stands there already
pub put-own : (l : List ℕ) (n : ℕ) → n ≤ length l → put l 0 (take n l) ≡ l
unfolding put
put-own l n h = rw (length-take-le n l h, zero-add, take-append-drop)

pub put-start : (l x : List ℕ) → put l 0 x ≡ x ++ drop (length x) l
unfolding put
put-start l x = rw zero-add

-- x behind w, which was put at the start
pub put_next : (l w x : List ℕ) (n : ℕ) → length w ≡ n → n ≤ length l → put (put l 0 w) n x ≡ put l 0 (w ++ x)
put_next l w x n e h = let d : 0 + length w ≡ n = omega arith in rw d at (put-put l 0 w x (omega arith))

-- what a copy of x to the start of l leaves
pub copy_start : (l x y : List ℕ) → y ≡ take (length x) x ++ drop (length x) l → y ≡ put l 0 x
copy_start l x y e = rw take-length at e ∙ sym (put-start l x)

-- the same by way of an array: z is what it held, and t what it holds after the first copy
pub way-start : (l x : List ℕ) (n : ℕ) (z t y : List ℕ) → length x ≡ n → t ≡ take (length x) x ++ drop (length x) z
    → y ≡ take (length (take (n - 0) t)) (take (n - 0) t) ++ drop (length (take (n - 0) t)) l → y ≡ put l 0 x
way-start l x n z t y m e d =
    let q : n - 0 ≡ length x = omega arith in
    let f : take (length x) t ≡ x = ap (λ (k : List ℕ). take (length x) k) (rw take-length at e) ∙ take_at x _ (length x) refl in
    copy_start l x y (rw (q, f) at d)

-- x is still to be put into l from `at` on: then it is m
pub record Laying (l : List ℕ) (at : ℕ) (x m : List ℕ) : Type 0 where
  pub whole : put l at x ≡ m
  pub room : at + length x ≤ length l

pub laying-start : (l : List ℕ) (at : ℕ) (x : List ℕ) → at + length x ≤ length l → Laying l at x (put l at x)
laying-start l at x h = record { whole = refl; room = h }

module _ {l : List ℕ} {at : ℕ} {m : List ℕ} where
  -- the list keeps its length
  pub laying-length : {x : List ℕ} → Laying l at x m → length l ≡ length m
  laying-length {x} g = sym (ap length (sym g.whole) ∙ put-length l at x g.room)

  -- the first part fits
  pub laying-fits : (x y : List ℕ) → Laying l at (x ++ y) m → at + length x ≤ length l
  laying-fits x y g = omega (arith, g.room, length-append x y)

  -- once it is put, the second part is left
  pub laying_on : (x y k : List ℕ) (next : ℕ) → Laying l at (x ++ y) m → k ≡ put l at x → next ≡ at + length x → Laying k next y m
  laying_on x y k next g e n =
      let f = laying-fits x y g in
      let r = ap length e ∙ put-length l at x f in
      record {
        whole = rw (e, n) (put-put l at x y f ∙ g.whole);
        room = omega (arith, g.room, length-append x y);
      }

  pub laying-end : Laying l at [] m → l ≡ m
  laying-end g = sym (put_none l at) ∙ g.whole
