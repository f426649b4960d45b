-- What is seen along the indices of a ring: one place, a slot that is written, a mark that is set, and the order of the segments in flight.
-- Assumes nothing.
use mathlib.Core.Path.{◌≡◌, refl, sym, ap, ◌∙◌}
use Prim.Native.Nat.{ℕ, ◌+◌, ◌-◌, ◌*◌, ◌≤◌, ◌<◌}
use native.Mathlib.Omega.{arith}
use native.Mathlib.Decide.{ℕ_discrete}
use mathlib.Core.List.{List, [], ◌∷◌, ◌++◌}
use lib.ListN.{length, get_or, set, take, drop, length-set}
use lib.Seq.{get_or-set_same, get_or-set_other, get_or_at, take_at, drop_at}
use borrow.Author.Tests.{eq-eqb, ne_eqb}
use Rattle.ring.specs.Counting.{count}
use Rattle.ring.specs.Places.{place, along}
use Rattle.ring.specs.Records.{part_slot}
use Rattle.ring.proofs.Rows.{row_in, put_slot-length, part_slot-own, part_slot-other}
use Rattle.ring.proofs.Places.{place_in, place-zero, place-place, place-apart, along_same, along_add, along_one, along-length}
use Rattle.ring.proofs.Counting.{count_add, count_single, count_same}
use Rattle.snd_ring.specs.Marks.{live_of, mark_at, lives}
use Rattle.snd_ring.specs.Store.{Store, Stored, segment, cell, seen, flight_of, waiting_of, Sized, Marked, Sound}
use Rattle.snd_ring.specs.Steps.{ring, written, appended_ring, appended, launched}
use Rattle.snd_ring.specs.declared.SndRing.{SndRing}
use Rattle.snd_ring.proofs.Marks.{by-live, live_yes}
use Rattle.snd_ring.proofs.Tests.{all_live}

-- ---- one place

-- the segment at place q
abbrev pub segment_at : ℕ → Store → ℕ → Stored
segment_at w m q = segment (part_slot w m.rows q 0 w) (part_slot 1476 m.room q 0 (get_or m.marks q 0 - 1))

module _ (w : ℕ) (m : Store) (q : ℕ) where
  pub cell-gap : get_or m.marks q 0 ≡ 0 → cell w m q ≡ []
  unfolding cell
  cell-gap h = rw (eq-eqb (get_or m.marks q 0) 0 h)

  pub cell-live : (get_or m.marks q 0 ≡ 0 → ⊥) → cell w m q ≡ segment_at w m q ∷ []
  unfolding cell
  cell-live h = rw (ne_eqb (get_or m.marks q 0) 0 h)

  pub cell-length : length (cell w m q) ≡ live_of (get_or m.marks q 0)
  cell-length =
      by-live (get_or m.marks q 0)
      (λ h e. let c = ap length (cell-gap h) in omega arith)
      (λ h e. let c = ap length (cell-live h) in omega arith)

-- as many segments are seen as there are live marks
pub seen-length : (w : ℕ) (m : Store) (s from n : ℕ) → length (seen w m s from n) ≡ lives m.marks s from n
unfolding seen count
seen-length w m s from n =
    along-length (λ (i : ℕ). cell w m (place (length m.marks) s i)) (λ (i : ℕ). live_of (mark_at m.marks s i)) from n
    (λ i. cell-length w m (place (length m.marks) s i))

-- ---- the indices of a ring, in parts

module _ (w : ℕ) (m : Store) (s : ℕ) where
  pub seen_add : (from a b : ℕ) → seen w m s from (a + b) ≡ seen w m s from a ++ seen w m s (from + a) b
  unfolding seen
  seen_add from a b = along_add (λ (i : ℕ). cell w m (place (length m.marks) s i)) from a b

  pub seen_one : (i : ℕ) → seen w m s i 1 ≡ cell w m (place (length m.marks) s i)
  unfolding seen
  seen_one i = along_one (λ (i : ℕ). cell w m (place (length m.marks) s i)) i

  pub seen_none : (from : ℕ) → seen w m s from 0 ≡ []
  unfolding seen along
  seen_none from = refl

  -- what stands before index from + i, at it and behind it
  pub seen_around : (from i n : ℕ) → i < n
      → seen w m s from n ≡ seen w m s from i ++ (cell w m (place (length m.marks) s (from + i)) ++ seen w m s (from + i + 1) (n - i - 1))
  seen_around from i n h =
      let e : n ≡ i + (1 + (n - i - 1)) = omega arith in
      ap (seen w m s from) e ∙ rw (seen_add from i (1 + (n - i - 1)), seen_add (from + i) 1 (n - i - 1), seen_one (from + i))

-- what is seen at indices with the same cells is the same
pub seen_alike : (w : ℕ) (m m' : Store) (s s' from from' n : ℕ)
    → ((i : ℕ) → i < n → cell w m' (place (length m'.marks) s' (from' + i)) ≡ cell w m (place (length m.marks) s (from + i)))
    → seen w m' s' from' n ≡ seen w m s from n
unfolding seen
seen_alike w m m' s s' from from' n h =
    along_same (λ (i : ℕ). cell w m' (place (length m'.marks) s' i)) (λ (i : ℕ). cell w m (place (length m.marks) s i)) from' from n
    (λ i j a b e.
    let y : i ≡ from' + (i - from') = omega arith in
    let z : from + (i - from') ≡ j = omega arith in
    ap (λ (x : ℕ). cell w m' (place (length m'.marks) s' x)) y ∙ h (i - from') (omega arith) ∙ ap (λ (x : ℕ). cell w m (place (length m.marks) s x)) z)

-- the same ring in another memory, whose cells at the n indices from `from` on are as they were
pub seen-kept : (w : ℕ) (m m' : Store) (s from n : ℕ) → length m'.marks ≡ length m.marks
    → ((i : ℕ) → from ≤ i → i < from + n → cell w m' (place (length m.marks) s i) ≡ cell w m (place (length m.marks) s i))
    → seen w m' s from n ≡ seen w m s from n
seen-kept w m m' s from n e h = seen_alike w m m' s s from from n (λ i a. rw e (h (from + i) (omega arith) (omega arith)))

-- ---- a ring that starts k indices further on

module _ (w : ℕ) (m : Store) (s k : ℕ) (inside : s < length m.marks) where
  pub seen-shift : (from n : ℕ) → k + from + n ≤ length m.marks → seen w m (place (length m.marks) s k) from n ≡ seen w m s (k + from) n
  seen-shift from n h =
      seen_alike w m m s (place (length m.marks) s k) (k + from) from n
      (λ i a.
      let e : k + (from + i) ≡ k + from + i = omega arith in
      ap (cell w m) (place-place (length m.marks) s k (from + i) inside (omega arith) ∙ ap (place (length m.marks) s) e))

module _ (l : List ℕ) (s k : ℕ) (inside : s < length l) where
  pub mark-shift : (i : ℕ) → k + i ≤ length l → mark_at l (place (length l) s k) i ≡ mark_at l s (k + i)
  mark-shift i h = ap (λ (q : ℕ). get_or l q 0) (place-place (length l) s k i inside h)

  pub lives-shift : (n : ℕ) → k + n ≤ length l → lives l (place (length l) s k) 0 n ≡ lives l s k n
  lives-shift n h =
      count_same 1 l l (place (length l) s k) s 0 k n
      (λ i j a b e. let z : k + i ≡ j = omega arith in mark-shift i (omega arith) ∙ ap (mark_at l s) z)

-- ---- the mark at index j becomes k

module _ (l : List ℕ) (s j k : ℕ) (inside : s < length l) (h : j < length l) where
  abbrev now : List ℕ
  now = set l (place (length l) s j) k

  pub mark-own : mark_at now s j ≡ k
  mark-own = rw length-set (get_or-set_same l (place (length l) s j) k 0 (place_in (length l) s j inside (omega arith)))

  pub mark-other : (i : ℕ) → i < length l → (i ≡ j → ⊥) → mark_at now s i ≡ mark_at l s i
  mark-other i a d = rw length-set (get_or-set_other l (place (length l) s j) (place (length l) s i) k 0 (place-apart (length l) s i j inside a h d))

  -- the first index is as it was where j is another
  pub first-other : (0 < j) → get_or now s 0 ≡ get_or l s 0
  first-other a =
      let z = place-zero (length l) s inside in
      get_or-set_other l (place (length l) s j) s k 0 (λ e. place-apart (length l) s 0 j inside (omega arith) h (λ q. omega arith) (z ∙ e))

  pub lives-other : (from n : ℕ) → from + n ≤ length l → ((i : ℕ) → from ≤ i → i < from + n → i ≡ j → ⊥) → lives now s from n ≡ lives l s from n
  lives-other from n f d =
      count_same 1 now l s s from from n
      (λ i t a b e. let z : i ≡ t = omega arith in mark-other i (omega arith) (d i a b) ∙ ap (mark_at l s) z)

pub lives_more : (l : List ℕ) (s n : ℕ) → lives l s 0 (n + 1) ≡ lives l s 0 n + live_of (mark_at l s n)
lives_more l s n = let z : 0 + n ≡ n = omega arith in count_add 1 l s 0 n 1 ∙ rw (z, count_single 1 l s n)

-- ---- a slot is within the lists

module _ (w : ℕ) (m : Store) (z : Sized w m) (q : ℕ) (h : q < length m.marks) where
  pub in_rows : q * w + w ≤ length m.rows
  in_rows = row_in w q (length m.marks) m.rows z.rows-size h

  pub in-room : q * 1476 + 1476 ≤ length m.room
  in-room = row_in 1476 q (length m.marks) m.room z.room-size h

  -- ---- it is written: the mark k, the row x, the bytes y

  module _ (k : ℕ) (x y : List ℕ) (whole : length x ≡ w) (size : k ≡ length y + 1) (fit : length y ≤ 1476) where
    pub written-marks : (written w m q k x y).marks ≡ set m.marks q k
    unfolding written
    written-marks = refl

    pub written-slots : length (written w m q k x y).marks ≡ length m.marks
    written-slots = rw written-marks (length-set m.marks q k)

    pub written-sized : Sized w (written w m q k x y)
    unfolding written
    written-sized =
        let a = in_rows in
        let b = in-room in
        let e = length-set m.marks q k in
        record {
          most = let f = z.most in omega arith;
          rows-size = put_slot-length w m.rows q 0 x (omega arith) a ∙ z.rows-size ∙ ap (λ (n : ℕ). n * w) (sym e);
          room-size = put_slot-length 1476 m.room q 0 y (omega arith) b ∙ z.room-size ∙ ap (λ (n : ℕ). n * 1476) (sym e);
        }

    pub cell-own : cell w (written w m q k x y) q ≡ segment x y ∷ []
    unfolding written
    cell-own =
        let e = get_or-set_same m.marks q k 0 h in
        let d : length y + 1 - 1 ≡ length y = omega arith in
        let o = rw whole at (part_slot-own w m.rows q 0 x (omega arith) in_rows) in
        cell-live w (written w m q k x y) q (λ z. omega arith) ∙ rw (e, size, d, o, part_slot-own 1476 m.room q 0 y (omega arith) in-room)

    pub cell_other : (t : ℕ) → (t ≡ q → ⊥) → get_or m.marks t 0 ≤ 1477 → cell w (written w m q k x y) t ≡ cell w m t
    unfolding written cell
    cell_other t d f =
        rw (
          get_or-set_other m.marks q t k 0 d,
          part_slot-other w m.rows q 0 x (omega arith) in_rows t 0 w d (omega arith),
          part_slot-other 1476 m.room q 0 y (omega arith) in-room t 0 (get_or m.marks t 0 - 1) d (omega arith),
        )

-- the slot at index j is written
module _ (w : ℕ) (m : Store) (z : Sized w m) (s j : ℕ) (inside : s < length m.marks) (h : j < length m.marks) (k : ℕ) (x y : List ℕ)
    (whole : length x ≡ w) (size : k ≡ length y + 1) (fit : length y ≤ 1476) where
  abbrev q : ℕ
  q = place (length m.marks) s j

  within : q < length m.marks
  within = place_in (length m.marks) s j inside (omega arith)

  abbrev after : Store
  after = written w m q k x y

  pub seen-own : seen w after s j 1 ≡ segment x y ∷ []
  seen-own = seen_one w after s j ∙ rw (written-slots w m z q within k x y whole size fit) (cell-own w m z q within k x y whole size fit)

  pub seen_other : (from n : ℕ) → from + n ≤ length m.marks → ((i : ℕ) → from ≤ i → i < from + n → i ≡ j → ⊥)
      → ((i : ℕ) → from ≤ i → i < from + n → mark_at m.marks s i ≤ 1477) → seen w after s from n ≡ seen w m s from n
  seen_other from n f d g =
      seen-kept w m after s from n (written-slots w m z q within k x y whole size fit)
      (λ i a b. cell_other w m z q within k x y whole size fit (place (length m.marks) s i)
      (place-apart (length m.marks) s i j inside (omega arith) h (d i a b)) (g i a b))

-- ---- how many fly, and how many wait

module _ (w : ℕ) (r : SndRing) (m : Store) (o : Sound w r m) where
  pub flight-length : length (flight_of w r m) ≡ r.flying
  unfolding flight_of
  flight-length = seen-length w m r.start 0 r.reach ∙ sym o.marked.counted

  pub waiting-length : length (waiting_of w r m) ≡ r.unsent
  unfolding waiting_of
  waiting-length = seen-length w m r.start r.reach r.unsent ∙ all_live m.marks r.start r.reach r.unsent o.marked.waits

-- ---- the segment at index i: its rank in flight is the number of segments before it

module _ (w : ℕ) (r : SndRing) (m : Store) (i : ℕ) where
  pub flight_around : i < r.reach → (mark_at m.marks r.start i ≡ 0 → ⊥)
      → flight_of w r m ≡ seen w m r.start 0 i ++ (segment_at w m (place (length m.marks) r.start i) ∷ seen w m r.start (i + 1) (r.reach - i - 1))
  unfolding flight_of
  flight_around flies live =
      let z : 0 + i ≡ i = omega arith in
      seen_around w m r.start 0 i r.reach flies ∙ rw (z, cell-live w m (place (length m.marks) r.start i) live)

  pub flight_at : i < r.reach → (mark_at m.marks r.start i ≡ 0 → ⊥) → (d : Stored)
      → get_or (flight_of w r m) (lives m.marks r.start 0 i) d ≡ segment_at w m (place (length m.marks) r.start i)
  flight_at flies live d = rw (flight_around flies live) (get_or_at (seen w m r.start 0 i) _ _ d (lives m.marks r.start 0 i) (seen-length w m r.start 0 i))

  -- what waits has no gap: the i-th is at index reach + i
  pub waiting_around : Sound w r m → i < r.unsent
      → waiting_of w r m
      ≡ seen w m r.start r.reach i ++ (segment_at w m (place (length m.marks) r.start (r.reach + i)) ∷ seen w m r.start (r.reach + i + 1) (r.unsent - i - 1))
  unfolding waiting_of
  waiting_around o waits =
      seen_around w m r.start r.reach i r.unsent waits
      ∙ rw (cell-live w m (place (length m.marks) r.start (r.reach + i)) (o.marked.waits (r.reach + i) (omega arith) (omega arith)))

  pub waiting_before : Sound w r m → i < r.unsent → length (seen w m r.start r.reach i) ≡ i
  waiting_before o waits = seen-length w m r.start r.reach i ∙ all_live m.marks r.start r.reach i (λ j a b. o.marked.waits j a (omega arith))

  pub waiting_at : Sound w r m → i < r.unsent → (d : Stored) → get_or (waiting_of w r m) i d ≡ segment_at w m (place (length m.marks) r.start (r.reach + i))
  waiting_at o waits d = rw (waiting_around o waits) (get_or_at (seen w m r.start r.reach i) _ _ d i (waiting_before o waits))

-- ---- a mark behind the flight is set: n wait

module _ (r : SndRing) (l : List ℕ) (o : Marked r l) (inside : r.start < length l) (n j k : ℕ) (many : r.reach + n ≤ length l) (behind : r.reach ≤ j) (h : j < length l)
    (some : 0 < k) (fits : k ≤ 1477) (others : (i : ℕ) → i < r.reach + n → (i ≡ j → ⊥) → i < r.reach + r.unsent) where
  abbrev put_in : List ℕ
  put_in = set l (place (length l) r.start j) k

  pub marked-set : Marked (ring r.start r.reach r.flying n) put_in
  marked-set = record {
    fit = λ i a. fit_or i a (ℕ_discrete i j);
    waits = λ i a b. waits_or i a b (ℕ_discrete i j);
    counted = o.counted ∙ sym (lives-other l r.start j k inside h 0 r.reach (omega arith) (λ i a b e. omega arith));
    normal = λ a z. o.normal a (sym (first-other l r.start j k inside h (omega arith)) ∙ z);
  }
    where
      fit_or : (i : ℕ) → i < r.reach + n → Dec (i ≡ j) → mark_at put_in r.start i ≤ 1477
      fit_or i a (yes e) = rw (e, mark-own l r.start j k inside h) fits
      fit_or i a (no d) = rw (mark-other l r.start j k inside h i (omega arith) d) (o.fit i (others i a d))

      waits_or : (i : ℕ) → r.reach ≤ i → i < r.reach + n → Dec (i ≡ j) → mark_at put_in r.start i ≡ 0 → ⊥
      waits_or i a b (yes e) z = let f = mark-own l r.start j k inside h in let y = rw e at z in omega arith
      waits_or i a b (no d) z = o.waits i a (others i b d) (sym (mark-other l r.start j k inside h i (omega arith) d) ∙ z)

-- ---- `append`

module _ (w : ℕ) (r : SndRing) (m : Store) (x : Stored) (o : Sound w r m) (free : r.reach + r.unsent < length m.marks) (whole : length x.row ≡ w) (fit : length x.payload ≤ 1476) where
  abbrev j : ℕ
  j = r.reach + r.unsent

  kept : (from n : ℕ) → from + n ≤ r.reach + r.unsent → seen w (appended w r m x) r.start from n ≡ seen w m r.start from n
  kept from n h =
      seen_other w m o.shaped.sized r.start j o.shaped.inside free (length x.payload + 1) x.row x.payload whole refl fit
      from n (omega arith) (λ i a b e. omega arith) (λ i a b. o.marked.fit i (omega arith))

  pub append-flight : flight_of w (appended_ring r) (appended w r m x) ≡ flight_of w r m
  unfolding flight_of
  append-flight = kept 0 r.reach (omega arith)

  pub append-waiting : waiting_of w (appended_ring r) (appended w r m x) ≡ waiting_of w r m ++ x ∷ []
  unfolding waiting_of
  append-waiting =
      seen_add w (appended w r m x) r.start r.reach r.unsent 1
      ∙ rw (
        kept r.reach r.unsent (omega arith),
        seen-own w m o.shaped.sized r.start j o.shaped.inside free (length x.payload + 1) x.row x.payload whole refl fit,
      )

  pub append-sound : Sound w (appended_ring r) (appended w r m x)
  unfolding written
  append-sound =
      let q = place (length m.marks) r.start j in
      let k = length x.payload + 1 in
      let e = length-set m.marks q k in
      record {
        shaped = record {
          sized = written-sized w m o.shaped.sized q (place_in (length m.marks) r.start j o.shaped.inside (omega arith)) k x.row x.payload whole refl fit;
          inside = let a = o.shaped.inside in omega arith;
          many = omega arith;
        };
        marked = marked-set r m.marks o.marked o.shaped.inside (r.unsent + 1) j k (omega arith) (omega arith) free (omega arith) (omega arith) (λ i a d. omega arith);
      }

-- ---- `launch`: the border moves, and no memory with it

module _ (w : ℕ) (r : SndRing) (m : Store) (o : Sound w r m) (some : 0 < r.unsent) where
  waits-live : mark_at m.marks r.start r.reach ≡ 0 → ⊥
  waits-live = o.marked.waits r.reach (omega arith) (omega arith)

  -- the first that waits
  first-waits : length (seen w m r.start r.reach 1) ≡ 1
  first-waits = seen-length w m r.start r.reach 1 ∙ count_single 1 m.marks r.start r.reach ∙ live_yes (mark_at m.marks r.start r.reach) waits-live

  waiting-parts : waiting_of w r m ≡ seen w m r.start r.reach 1 ++ seen w m r.start (r.reach + 1) (r.unsent - 1)
  unfolding waiting_of
  waiting-parts = let e : r.unsent ≡ 1 + (r.unsent - 1) = omega arith in ap (seen w m r.start r.reach) e ∙ seen_add w m r.start r.reach 1 (r.unsent - 1)

  pub launch-flight : flight_of w (launched r) m ≡ flight_of w r m ++ take 1 (waiting_of w r m)
  unfolding flight_of
  launch-flight =
      let z : 0 + r.reach ≡ r.reach = omega arith in
      seen_add w m r.start 0 r.reach 1 ∙ rw (z, waiting-parts, take_at (seen w m r.start r.reach 1) (seen w m r.start (r.reach + 1) (r.unsent - 1)) 1 first-waits)

  waiting-rest : waiting_of w (launched r) m ≡ seen w m r.start (r.reach + 1) (r.unsent - 1)
  unfolding waiting_of
  waiting-rest = refl

  pub launch-waiting : waiting_of w (launched r) m ≡ drop 1 (waiting_of w r m)
  launch-waiting = rw (waiting-rest, waiting-parts, drop_at (seen w m r.start r.reach 1) (seen w m r.start (r.reach + 1) (r.unsent - 1)) 1 first-waits)

  pub launch-sound : Sound w (launched r) m
  launch-sound = record {
    shaped = record { sized = o.shaped.sized; inside = o.shaped.inside; many = let a = o.shaped.many in omega arith };
    marked = record {
      fit = λ i a. o.marked.fit i (omega arith);
      waits = λ i a b. o.marked.waits i (omega arith) (omega arith);
      counted =
          let a = lives_more m.marks r.start r.reach in
          let b = live_yes (mark_at m.marks r.start r.reach) waits-live in
          let e = o.marked.counted in
          omega arith;
      normal = λ a z. first (ℕ_discrete r.reach 0) z;
    };
  }
    where
      first : Dec (r.reach ≡ 0) → get_or m.marks r.start 0 ≡ 0 → ⊥
      first (yes e) z =
          let y = place-zero (length m.marks) r.start o.shaped.inside in
          o.marked.waits 0 (omega arith) (omega arith) (ap (λ (q : ℕ). get_or m.marks q 0) y ∙ z)
      first (no d) z = o.marked.normal (omega arith) z
