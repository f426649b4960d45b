-- `fill` seen over the segments: the last that waits has more payload, and another number in its row. Assumes nothing.
use mathlib.Core.Path.{◌≡◌, sym, ap, ◌∙◌}
use Prim.Native.Nat.{ℕ, ◌+◌, ◌-◌, ◌*◌, ◌/◌, ◌≤◌, ◌<◌}
use native.Mathlib.Omega.{arith}
use mathlib.Core.List.{List, ◌++◌}
use lib.ListN.{length, get_or, set, length-set}
use lib.Seq.{get_or-set_same, get_or-set_other}
use Rattle.ring.specs.Lists.{lists}
use Rattle.ring.specs.Places.{place}
use Rattle.ring.specs.Records.{put_slot}
use Rattle.ring.proofs.Rows.{put_slot-length, part_slot-other, part_slot-joined}
use Rattle.ring.proofs.Places.{place_in, place-apart}
use Rattle.snd_ring.specs.Marks.{mark_at}
use Rattle.snd_ring.specs.Store.{Store, store_of, Stored, segment, cell, seen, flight_of, waiting_of, Sound}
use Rattle.snd_ring.specs.Steps.{renumbered, last, last_place, filled}
use Rattle.snd_ring.specs.declared.SndRing.{SndRing}
use Rattle.snd_ring.proofs.Splits.{place_by, mark-read, store-mark}
use Rattle.snd_ring.proofs.Views.{segment_at, seen-kept, in-room, waiting_around, waiting_before, marked-set}
use Rattle.snd_ring.proofs.Renumbers.{changed, row-own, row_other, row-size}

-- number k of the row is x, and y is put behind the payload
abbrev pub topped : List ℕ → ℕ → ℕ → Stored → Stored
topped y k x z = segment (set z.row k x) (z.payload ++ y)

module _ (w : ℕ) (r : SndRing) (m : Store) (o : Sound w r m) (some : 0 < r.unsent) (y : List ℕ) (fits : mark_at m.marks r.start (last r) + length y ≤ 1477) (k x : ℕ) (few : k < w) where
  abbrev q : ℕ
  q = last_place r m.marks

  abbrev n : ℕ
  n = get_or m.marks q 0

  abbrev after : Store
  after = filled w r m y k x

  live : n ≡ 0 → ⊥
  live = o.marked.waits (last r) (omega arith) (omega arith)

  below : last r < length m.marks
  below = let a = o.shaped.many in omega arith

  within : q < length m.marks
  within = place_in (length m.marks) r.start (last r) o.shaped.inside (omega (arith, below))

  in_slot : n - 1 + length y ≤ 1476
  in_slot = omega (arith, live)

  slots : length after.marks ≡ length m.marks
  unfolding filled
  slots = length-set m.marks q (n + length y)

  fill-own : segment_at w after q ≡ topped y k x (segment_at w m q)
  unfolding filled
  fill-own =
      let e = get_or-set_same m.marks q (n + length y) 0 within in
      let f : n + length y - 1 ≡ n - 1 + length y = omega (arith, live) in
      rw (e, f, row-own w m o.shaped.sized q within k x few, part_slot-joined 1476 m.room q (n - 1) y in_slot (in-room w m o.shaped.sized q within))

  fill-other : (t : ℕ) → (t ≡ q → ⊥) → get_or m.marks t 0 ≤ 1477 → cell w after t ≡ cell w m t
  unfolding filled cell
  fill-other t d f =
      rw (
        get_or-set_other m.marks q t (n + length y) 0 d,
        row_other w m o.shaped.sized q within k x few t d,
        part_slot-other 1476 m.room q (n - 1) y in_slot (in-room w m o.shaped.sized q within) t 0 (get_or m.marks t 0 - 1) d (omega arith),
      )

  others : (from n : ℕ) → from + n ≤ r.reach + r.unsent → ((j : ℕ) → from ≤ j → j < from + n → j ≡ last r → ⊥) → seen w after r.start from n ≡ seen w m r.start from n
  others from n h d =
      let a = o.shaped.many in
      seen-kept w m after r.start from n slots
      (λ j b c. fill-other (place (length m.marks) r.start j)
      (place-apart (length m.marks) r.start j (last r) o.shaped.inside (omega arith) below (d j b c))
      (o.marked.fit j (omega arith)))

  pub fill-flight : flight_of w r after ≡ flight_of w r m
  unfolding flight_of
  fill-flight = others 0 r.reach (omega arith) (λ j a b e. omega arith)

  pub fill-sound : Sound w r after
  unfolding filled
  fill-sound =
      let e = slots in
      let a = live in
      record {
        shaped = record {
          sized = record {
            most = let f = o.shaped.sized.most in omega arith;
            rows-size = row-size w m o.shaped.sized q within k x few ∙ ap (λ (n : ℕ). n * w) (sym e);
            room-size =
                put_slot-length 1476 m.room q (n - 1) y in_slot (in-room w m o.shaped.sized q within) ∙ o.shaped.sized.room-size ∙ ap (λ (n : ℕ). n * 1476) (sym e);
          };
          inside = let f = o.shaped.inside in omega arith;
          many = let f = o.shaped.many in omega arith;
        };
        marked =
            marked-set r m.marks o.marked o.shaped.inside r.unsent (last r) (n + length y) o.shaped.many (omega arith) below
            (omega arith) fits (λ i a d. a);
      }

  pub fill-waiting : (d : Stored) → waiting_of w r after ≡ set (waiting_of w r m) (r.unsent - 1) (topped y k x (get_or (waiting_of w r m) (r.unsent - 1) d))
  fill-waiting d =
      let e : r.reach + (r.unsent - 1) ≡ last r = omega arith in
      rw e at (waiting_around w r after (r.unsent - 1) fill-sound (omega arith))
      ∙ rw (
        slots,
        fill-own,
        others r.reach (r.unsent - 1) (omega arith) (λ j a b e. omega arith),
        others (last r + 1) (r.unsent - (r.unsent - 1) - 1) (omega arith) (λ j a b e. omega arith),
      )
      (changed (waiting_of w r m) (seen w m r.start r.reach (r.unsent - 1)) (segment_at w m q) (seen w m r.start (last r + 1) (r.unsent - (r.unsent - 1) - 1)) (r.unsent - 1) (topped y k x) d
      (rw e at (waiting_around w r m (r.unsent - 1) o (omega arith))) (waiting_before w r m (r.unsent - 1) o (omega arith)))

-- ---- by what the function has written: the bytes, the mark, the number

pub filled_by : (w : ℕ) (r : SndRing) (a c : List ℕ) (t u : ℕ) (y : List ℕ) (k x : ℕ) {d : List ℕ} → t ≡ length a / (w + 1) → u ≡ place t r.start (last r) → u < t
    → d ≡ put_slot 1476 c u (get_or a u 0 - 1) y → renumbered w (store_of w (lists (set a u (get_or a u 0 + length y)) d)) u k x ≡ filled w r (store_of w (lists a c)) y k x
unfolding filled store_of
filled_by w r a c t u y k x {d} e p h f =
    let z = mark-read w a c u 0 (omega arith) in
    let i = place_by w (lists a c) t r.start (last r) u e p in
    ap (λ (m : Store). renumbered w m u k x) (store-mark w a d u (get_or a u 0 + length y) (omega arith)) ∙ rw (f, z, i)
