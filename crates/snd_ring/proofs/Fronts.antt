-- What stands in a ring after `drop_front` and `take_out`, and that it is sound. Assumes nothing.
use mathlib.Core.Path.{◌≡◌, refl, sym, ap, ◌∙◌}
use Prim.Native.Nat.{ℕ, suc, ◌+◌, ◌-◌, ◌*◌, ◌≤◌, ◌<◌}
use native.Mathlib.Omega.{arith}
use native.Mathlib.Decide.{ℕ_discrete}
use mathlib.Core.List.{List, [], ◌∷◌, ◌++◌}
use lib.ListN.{length, set, drop, length-set}
use lib.Seq.{get_or-set_other, take_at, drop_at, drop-append-add}
use Rattle.ring.specs.Counting.{count}
use Rattle.ring.specs.Places.{place}
use Rattle.ring.specs.Sequences.{removed}
use Rattle.ring.proofs.Places.{place_in, place-apart}
use Rattle.ring.proofs.Counting.{count_add, count_none, count_single}
use Rattle.snd_ring.specs.Marks.{live_of, mark_at, lives, passed}
use Rattle.snd_ring.specs.Store.{Store, cell, seen, flight_of, waiting_of, Shaped, Sound}
use Rattle.snd_ring.specs.Steps.{ring, with_marks, settled, advanced, dropped, gapped, taken_out}
use Rattle.snd_ring.specs.declared.SndRing.{SndRing}
use Rattle.snd_ring.proofs.Marks.{live_no, live_yes, passed-lives, passed_le, passed-normal}
use Rattle.snd_ring.proofs.Steps.{settled_none, settled-some}
use Rattle.snd_ring.proofs.Views.{cell-gap, seen-length, seen_add, seen_none, seen_around, seen-kept, seen-shift, mark-shift, lives-shift, mark-own, mark-other, lives-other, flight_around}

-- ---- `settle`

module _ (w : ℕ) (r : SndRing) (m : Store) where
  pub settle-flight : flight_of w (settled r) m ≡ flight_of w r m
  unfolding flight_of
  settle-flight = go (ℕ_discrete (r.reach + r.unsent) 0)
    where
      go : Dec (r.reach + r.unsent ≡ 0) → seen w m (settled r).start 0 (settled r).reach ≡ seen w m r.start 0 r.reach
      go (yes e) = let z : r.reach ≡ 0 = omega arith in rw (settled_none r e, z) (simp seen_none)
      go (no d) = rw (settled-some r d)

  pub settle-waiting : waiting_of w (settled r) m ≡ waiting_of w r m
  unfolding waiting_of
  settle-waiting = go (ℕ_discrete (r.reach + r.unsent) 0)
    where
      go : Dec (r.reach + r.unsent ≡ 0) → seen w m (settled r).start (settled r).reach (settled r).unsent ≡ seen w m r.start r.reach r.unsent
      go (yes e) = let z : r.unsent ≡ 0 = omega arith in rw (settled_none r e, z) (simp seen_none)
      go (no d) = rw (settled-some r d)

  pub settle-sound : Sound w r m → Sound w (settled r) m
  settle-sound o = go (ℕ_discrete (r.reach + r.unsent) 0)
    where
      no-lives : r.reach ≡ 0 → lives m.marks r.start 0 r.reach ≡ lives m.marks 0 0 r.reach
      no-lives e = rw e (simp count_none)

      go : Dec (r.reach + r.unsent ≡ 0) → Sound w (settled r) m
      go (yes e) =
          rw (settled_none r e)
          (record {
            shaped = record { sized = o.shaped.sized; inside = let h = o.shaped.inside in omega arith; many = o.shaped.many };
            marked = record {
              fit = λ i a. absurd (omega arith);
              waits = λ i a b z. omega arith;
              counted = o.marked.counted ∙ no-lives (omega arith);
              normal = λ a z. omega arith;
            };
          })
      go (no d) = rw (settled-some r d) o

-- ---- `drop_front`

-- sound but for the first index, which may be a gap
pub record Loose (w : ℕ) (r : SndRing) (m : Store) : Type 0 where
  pub shaped : Shaped w r m
  pub fit : (i : ℕ) → i < r.reach + r.unsent → mark_at m.marks r.start i ≤ 1477
  pub waits : (i : ℕ) → r.reach ≤ i → i < r.reach + r.unsent → mark_at m.marks r.start i ≡ 0 → ⊥
  pub counted : r.flying ≡ lives m.marks r.start 0 r.reach

pub loosened : (w : ℕ) (r : SndRing) (m : Store) → Sound w r m → Loose w r m
loosened w r m o = record { shaped = o.shaped; fit = o.marked.fit; waits = o.marked.waits; counted = o.marked.counted }

module _ (w : ℕ) (r : SndRing) (m : Store) (o : Loose w r m) (k : ℕ) (few : k ≤ r.flying) where
  t : ℕ
  t = passed (mark_at m.marks r.start) 0 r.reach k

  t_le : t ≤ r.reach
  unfolding t
  t_le = passed_le (mark_at m.marks r.start) 0 r.reach k

  t-lives : lives m.marks r.start 0 t ≡ k
  unfolding t count
  t-lives = passed-lives (mark_at m.marks r.start) 0 r.reach k (rw o.counted at few)

  t-normal : t < r.reach → mark_at m.marks r.start (0 + t) ≡ 0 → ⊥
  unfolding t
  t-normal h z = passed-normal (mark_at m.marks r.start) 0 r.reach k h z

  -- the ring before it is settled
  abbrev rest : SndRing
  rest = ring (place (length m.marks) r.start t) (r.reach - t) (r.flying - k) r.unsent

  dropped-rest : dropped r m.marks k ≡ settled rest
  unfolding dropped advanced t
  dropped-rest = refl

  -- t indices and the rest
  flight-parts : flight_of w r m ≡ seen w m r.start 0 t ++ seen w m r.start (0 + t) (r.reach - t)
  unfolding flight_of
  flight-parts =
      let l = t_le in
      let e : r.reach ≡ t + (r.reach - t) = omega arith in
      ap (seen w m r.start 0) e ∙ seen_add w m r.start 0 t (r.reach - t)

  rest-flight : flight_of w rest m ≡ seen w m r.start (0 + t) (r.reach - t)
  unfolding flight_of
  rest-flight =
      let l = t_le in
      let x = o.shaped.many in
      let e : t + 0 ≡ 0 + t = omega arith in
      seen-shift w m r.start t o.shaped.inside 0 (r.reach - t) (omega arith) ∙ ap (λ (i : ℕ). seen w m r.start i (r.reach - t)) e

  rest-waiting : waiting_of w rest m ≡ waiting_of w r m
  unfolding waiting_of
  rest-waiting =
      let l = t_le in
      let x = o.shaped.many in
      let e : t + (r.reach - t) ≡ r.reach = omega arith in
      seen-shift w m r.start t o.shaped.inside (r.reach - t) r.unsent (omega arith) ∙ ap (λ (i : ℕ). seen w m r.start i r.unsent) e

  rest-sound : Sound w rest m
  rest-sound =
      let l = t_le in
      let x = o.shaped.many in
      let q : 0 + t ≡ t = omega arith in
      record {
        shaped = record {
          sized = o.shaped.sized;
          inside = place_in (length m.marks) r.start t o.shaped.inside (omega arith);
          many = omega arith;
        };
        marked = record {
          fit = λ i a. rw (mark-shift m.marks r.start t o.shaped.inside i (omega arith)) (o.fit (t + i) (omega arith));
          waits = λ i a b z. o.waits (t + i) (omega arith) (omega arith) (sym (mark-shift m.marks r.start t o.shaped.inside i (omega arith)) ∙ z);
          counted =
              let e : r.reach ≡ t + (r.reach - t) = omega arith in
              let a = o.counted ∙ ap (lives m.marks r.start 0) e ∙ count_add 1 m.marks r.start 0 t (r.reach - t) in
              let a = rw q at a in
              let b = t-lives in
              let d = lives-shift m.marks r.start t o.shaped.inside (r.reach - t) (omega arith) in
              omega arith;
          normal = λ a z. t-normal (omega arith) (rw q z);
        };
      }

  pub drop-flight : flight_of w (dropped r m.marks k) m ≡ drop k (flight_of w r m)
  drop-flight =
      rw (dropped-rest, settle-flight w rest m, flight-parts, drop_at (seen w m r.start 0 t) (seen w m r.start (0 + t) (r.reach - t)) k (seen-length w m r.start 0 t ∙ t-lives))
      rest-flight

  pub drop-waiting : waiting_of w (dropped r m.marks k) m ≡ waiting_of w r m
  drop-waiting = rw (dropped-rest, settle-waiting w rest m) rest-waiting

  pub drop-sound : Sound w (dropped r m.marks k) m
  drop-sound = rw dropped-rest (settle-sound w rest m rest-sound)

-- ---- `take_out`

-- the entry between x and z is taken out
cut : {A : Type 0} (x : List A) (y : A) (z : List A) (n : ℕ) → length x ≡ n → removed (x ++ (y ∷ z)) n ≡ x ++ z
unfolding removed
cut x y z n a =
    let e : suc n ≡ length x + 1 = omega arith in
    rw (take_at x (y ∷ z) n a, e, drop-append-add x (y ∷ z) 1)

module _ (w : ℕ) (r : SndRing) (m : Store) (o : Sound w r m) (i : ℕ) (flies : i < r.reach) (live : mark_at m.marks r.start i ≡ 0 → ⊥) where
  -- the lists with the gap, and the ring before gaps at the front leave
  abbrev left : Store
  left = with_marks m (gapped r m.marks i)

  abbrev fewer : SndRing
  fewer = ring r.start r.reach (r.flying - 1) r.unsent

  below : i < length m.marks
  below = let x = o.shaped.many in omega arith

  slots : length (gapped r m.marks i) ≡ length m.marks
  unfolding gapped
  slots = length-set m.marks (place (length m.marks) r.start i) 0

  gap_here : cell w left (place (length (gapped r m.marks i)) r.start i) ≡ []
  unfolding gapped
  gap_here = cell-gap w left _ (mark-own m.marks r.start i 0 o.shaped.inside below)

  seen_left : (from n : ℕ) → from + n ≤ length m.marks → ((j : ℕ) → from ≤ j → j < from + n → j ≡ i → ⊥) → seen w left r.start from n ≡ seen w m r.start from n
  unfolding gapped cell
  seen_left from n h d =
      seen-kept w m left r.start from n slots
      (λ j a b. rw (get_or-set_other m.marks (place (length m.marks) r.start i) (place (length m.marks) r.start j) 0 0
      (place-apart (length m.marks) r.start j i o.shaped.inside (omega arith) below (d j a b))))

  gap_around : flight_of w fewer left ≡ seen w m r.start 0 i ++ seen w m r.start (i + 1) (r.reach - i - 1)
  unfolding flight_of
  gap_around =
      let x = o.shaped.many in
      let z : 0 + i ≡ i = omega arith in
      seen_around w left r.start 0 i r.reach flies
      ∙ rw (
        z,
        gap_here,
        seen_left 0 i (omega arith) (λ j a b e. omega arith),
        seen_left (i + 1) (r.reach - i - 1) (omega arith) (λ j a b e. omega arith),
      )

  gap-flight : flight_of w fewer left ≡ removed (flight_of w r m) (lives m.marks r.start 0 i)
  gap-flight = gap_around ∙ rw (flight_around w r m i flies live) (sym (cut (seen w m r.start 0 i) _ _ (lives m.marks r.start 0 i) (seen-length w m r.start 0 i)))

  gap-waiting : waiting_of w fewer left ≡ waiting_of w r m
  unfolding waiting_of
  gap-waiting = let x = o.shaped.many in seen_left r.reach r.unsent (omega arith) (λ j a b e. omega arith)

  gap_loose : Loose w fewer left
  unfolding gapped
  gap_loose =
      let x = o.shaped.many in
      let e = slots in
      let z = o.shaped.sized in
      record {
        shaped = record {
          sized = record { most = let a = z.most in omega arith; rows-size = z.rows-size ∙ ap (λ (n : ℕ). n * w) (sym e); room-size = let a = z.room-size in omega arith };
          inside = let a = o.shaped.inside in omega arith;
          many = omega arith;
        };
        fit = λ j a. gap_or j a (ℕ_discrete j i);
        waits = λ j a b z. o.marked.waits j a b (sym (mark-other m.marks r.start i 0 o.shaped.inside below j (omega arith) (λ q. omega arith)) ∙ z);
        counted = recount;
      }
    where
      gap_or : (j : ℕ) → j < r.reach + r.unsent → Dec (j ≡ i) → mark_at (set m.marks (place (length m.marks) r.start i) 0) r.start j ≤ 1477
      gap_or j a (yes q) = rw (q, mark-own m.marks r.start i 0 o.shaped.inside below) (omega arith)
      gap_or j a (no d) = let x = o.shaped.many in rw (mark-other m.marks r.start i 0 o.shaped.inside below j (omega arith) d) (o.marked.fit j a)

      lives-parts : (l : List ℕ) → lives l r.start 0 r.reach ≡ lives l r.start 0 i + (live_of (mark_at l r.start i) + lives l r.start (i + 1) (r.reach - i - 1))
      lives-parts l =
          let e : r.reach ≡ i + (1 + (r.reach - i - 1)) = omega arith in
          let z : 0 + i ≡ i = omega arith in
          ap (lives l r.start 0) e ∙ rw (count_add 1 l r.start 0 i (1 + (r.reach - i - 1)), z, count_add 1 l r.start i 1 (r.reach - i - 1), count_single 1 l r.start i)

      recount : r.flying - 1 ≡ lives (set m.marks (place (length m.marks) r.start i) 0) r.start 0 r.reach
      recount =
          let x = o.shaped.many in
          let a = lives-parts m.marks in
          let b = lives-parts (set m.marks (place (length m.marks) r.start i) 0) in
          let d = lives-other m.marks r.start i 0 o.shaped.inside below 0 i (omega arith) (λ j a b e. omega arith) in
          let f = lives-other m.marks r.start i 0 o.shaped.inside below (i + 1) (r.reach - i - 1) (omega arith) (λ j a b e. omega arith) in
          let g = live_yes (mark_at m.marks r.start i) live in
          let h = live_no _ (mark-own m.marks r.start i 0 o.shaped.inside below) in
          let c = o.marked.counted in
          omega arith

  pub take-flight : flight_of w (taken_out r m.marks i) left ≡ removed (flight_of w r m) (lives m.marks r.start 0 i)
  unfolding taken_out
  take-flight = drop-flight w fewer left gap_loose 0 (omega arith) ∙ gap-flight

  pub take-waiting : waiting_of w (taken_out r m.marks i) left ≡ waiting_of w r m
  unfolding taken_out
  take-waiting = drop-waiting w fewer left gap_loose 0 (omega arith) ∙ gap-waiting

  pub take-sound : Sound w (taken_out r m.marks i) left
  unfolding taken_out
  take-sound = drop-sound w fewer left gap_loose 0 (omega arith)
