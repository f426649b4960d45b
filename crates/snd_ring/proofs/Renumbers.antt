-- A number of a row is changed: of the row at a place, and of a segment in flight. Assumes nothing.
use mathlib.Core.Path.{◌≡◌, refl, sym, ◌∙◌}
use Prim.Native.Nat.{ℕ, ◌+◌, ◌-◌, ◌*◌, ◌≤◌, ◌<◌}
use native.Mathlib.Omega.{arith}
use mathlib.Core.List.{List, [], ◌∷◌, ◌++◌}
use lib.ListN.{length, get_or, set}
use lib.Seq.{get_or_at, set_at}
use Rattle.ring.specs.Places.{place}
use Rattle.ring.specs.Records.{put_slot, part_slot}
use Rattle.ring.proofs.Rows.{part_length, put_one, put_slot-length, part_slot-other, part_slot-put}
use Rattle.ring.proofs.Places.{place_in, place-apart}
use Rattle.snd_ring.specs.Marks.{mark_at, lives}
use Rattle.snd_ring.specs.Store.{Store, Stored, segment, cell, seen, flight_of, waiting_of, Sized, Sound}
use Rattle.snd_ring.specs.Steps.{renumbered}
use Rattle.snd_ring.specs.declared.SndRing.{SndRing}
use Rattle.snd_ring.proofs.Views.{segment_at, cell-live, seen-length, seen-kept, in_rows, flight_around}

-- entry n is changed by f
pub changed : {A : Type 0} (l x : List A) (z : A) (y : List A) (n : ℕ) (f : A → A) (d : A) → l ≡ x ++ (z ∷ y) → length x ≡ n → x ++ (f z ∷ y) ≡ set l n (f (get_or l n d))
changed l x z y n f d e h = sym (rw (e, get_or_at x z y d n h) (set_at x z y (f z) n h))

-- number k of the row is x
abbrev pub numbered : ℕ → ℕ → Stored → Stored
numbered k x z = segment (set z.row k x) z.payload

-- ---- number k of the row at place q

module _ (w : ℕ) (m : Store) (z : Sized w m) (q : ℕ) (h : q < length m.marks) (k x : ℕ) (few : k < w) where
  pub row-own : part_slot w (put_slot w m.rows q k (x ∷ [])) q 0 w ≡ set (part_slot w m.rows q 0 w) k x
  row-own =
      let a = in_rows w m z q h in
      let n = part_length m.rows (q * w + 0) w (omega arith) in
      part_slot-put w m.rows q k (x ∷ []) (omega arith) a ∙ sym (put_one (part_slot w m.rows q 0 w) k x (omega arith))

  pub row_other : (t : ℕ) → (t ≡ q → ⊥) → part_slot w (put_slot w m.rows q k (x ∷ [])) t 0 w ≡ part_slot w m.rows t 0 w
  row_other t d = part_slot-other w m.rows q k (x ∷ []) (omega arith) (in_rows w m z q h) t 0 w d (omega arith)

  pub row-size : length (put_slot w m.rows q k (x ∷ [])) ≡ length m.marks * w
  row-size = put_slot-length w m.rows q k (x ∷ []) (omega arith) (in_rows w m z q h) ∙ z.rows-size

  pub number-own : (get_or m.marks q 0 ≡ 0 → ⊥) → cell w (renumbered w m q k x) q ≡ numbered k x (segment_at w m q) ∷ []
  number-own live = cell-live w (renumbered w m q k x) q live ∙ rw row-own

  pub number-other : (t : ℕ) → (t ≡ q → ⊥) → cell w (renumbered w m q k x) t ≡ cell w m t
  unfolding cell
  number-other t d = rw (row_other t d)

-- ---- of the segment at index i in flight

module _ (w : ℕ) (r : SndRing) (m : Store) (o : Sound w r m) (i : ℕ) (flies : i < r.reach) (k x : ℕ) (few : k < w) where
  abbrev q : ℕ
  q = place (length m.marks) r.start i

  below : i < length m.marks
  below = let a = o.shaped.many in omega arith

  within : q < length m.marks
  within = place_in (length m.marks) r.start i o.shaped.inside (omega (arith, below))

  others : (from n : ℕ) → from + n ≤ r.reach + r.unsent → ((j : ℕ) → from ≤ j → j < from + n → j ≡ i → ⊥) → seen w (renumbered w m q k x) r.start from n ≡ seen w m r.start from n
  others from n h d =
      let a = o.shaped.many in
      seen-kept w m (renumbered w m q k x) r.start from n refl
      (λ j b c. number-other w m o.shaped.sized q within k x few (place (length m.marks) r.start j)
      (place-apart (length m.marks) r.start j i o.shaped.inside (omega arith) below (d j b c)))

  pub renumber-flight : (mark_at m.marks r.start i ≡ 0 → ⊥) → (d : Stored)
      → flight_of w r (renumbered w m q k x)
      ≡ set (flight_of w r m) (lives m.marks r.start 0 i) (numbered k x (get_or (flight_of w r m) (lives m.marks r.start 0 i) d))
  renumber-flight live d =
      flight_around w r (renumbered w m q k x) i flies live
      ∙ rw (
        row-own w m o.shaped.sized q within k x few,
        others 0 i (omega arith) (λ j a b e. omega arith),
        others (i + 1) (r.reach - i - 1) (omega arith) (λ j a b e. omega arith),
      )
      (changed (flight_of w r m) (seen w m r.start 0 i) (segment_at w m q) (seen w m r.start (i + 1) (r.reach - i - 1)) (lives m.marks r.start 0 i) (numbered k x) d
      (flight_around w r m i flies live) (seen-length w m r.start 0 i))

  pub renumber-waiting : waiting_of w r (renumbered w m q k x) ≡ waiting_of w r m
  unfolding waiting_of
  renumber-waiting = others r.reach r.unsent (omega arith) (λ j a b e. omega arith)

  pub renumber-sound : Sound w r (renumbered w m q k x)
  renumber-sound = record {
    shaped = record {
      sized = record { most = o.shaped.sized.most; rows-size = row-size w m o.shaped.sized q within k x few; room-size = o.shaped.sized.room-size };
      inside = o.shaped.inside;
      many = o.shaped.many;
    };
    marked = o.marked;
  }
