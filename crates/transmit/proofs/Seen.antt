-- The law between the memory functions and the rules: what is seen in the memory afterwards is the rule's outcome of what was seen before, the ring
-- stays sound, and the memory as large as it was. Assumes nothing.
use Prim.Native.Nat.{ℕ, zero, suc, ◌+◌, ◌*◌, ◌≤◌, ◌<◌, zero-le, suc-le-suc}
use native.Mathlib.Omega.{arith}
use mathlib.Core.Path.{◌≡◌, refl, sym, ap, ◌∙◌, subst}
use mathlib.Core.Bool.{Bool, true, false, cond, ◌&&◌}
use mathlib.Core.List.{List, [], ◌∷◌, map, map-map}
use lib.ListN.{length, drop, get_or, length-set, length-map}
use borrow.Author.Tests.{eq-eqb, ne_eqb}
use lib.Seq.{get_or-set_same, get_or-set_other}
use Rattle.serial.specs.Branch.{pick}
use Rattle.serial.specs.Wrap.{after}
use Rattle.ring.specs.Places.{place}
use Rattle.ring.specs.Sequences.{removed}
use Rattle.ring.proofs.Places.{by_less, place_in, place-apart}
use Rattle.ring.proofs.Counting.{count_under}
use Rattle.ring.proofs.Rows.{part_length, part_slot-number}
use Rattle.ring.proofs.Sequences.{map_append, map-drop, map-removed}
use Rattle.snd_ring.specs.declared.SndRing.{SndRing}
use Rattle.snd_ring.specs.Marks.{mark_at}
use Rattle.snd_ring.specs.Store.{Store, Stored, segment, cell, flight_of, waiting_of, Sound}
use Rattle.snd_ring.specs.Store as memory
use Rattle.snd_ring.specs.Steps.{renumbered, dropped, gapped}
use Rattle.snd_ring.proofs.Marks.{by-live}
use Rattle.snd_ring.proofs.Views.{segment_at, cell-gap, cell-live, seen_none, seen-kept, in_rows, flight-length}
use Rattle.snd_ring.proofs.Fronts.{loosened, drop-flight, drop-waiting, drop-sound, take-flight, take-waiting, take-sound}
use Rattle.snd_ring.proofs.Renumbers.{numbered, number-own, number-other, renumber-sound}
use Rattle.block.specs.declared.sender.Sender.{Sender}
use Rattle.block.specs.Parts.{with_snd_ring}
use Rattle.std.proofs.Common.{Option, Some, None}
use Rattle.sending.specs.declared.Ack.{Ack}
use Rattle.sending.specs.Rules.{Segment, Sending, with_flying, acknowledged_by, shrunk, parse_una, in_range, seek, meets, found, parse_ack, fastack_of, raised, parse_fastack}
use Rattle.transmit.specs.Memory.{sn, ts, fastack, segment_of, seen, flying_numbers, number_in, Side, side, shrunk_at, una_at, sought, removed_at, shrunk_side, ack_at, raised_one, raised_from, fastack_at}
use Rattle.transmit.proofs.Numbers.{seen_first, flying-numbers, Met, sought_is}

-- what holds of either side holds of the choice
pick_by : {A : Type 0} (P : A → Type 0) (t : Bool) (a b : A) → (t ≡ true → P a) → (t ≡ false → P b) → P (pick t a b)
unfolding pick
pick_by P true a b x y = x refl
pick_by P false a b x y = y refl

-- ---- the memory is as large as it was

pub record AsLarge (m after : Store) : Type 0 where
  pub marks : length after.marks ≡ length m.marks
  pub rows : length after.rows ≡ length m.rows
  pub room : length after.room ≡ length m.room

-- the sender's other numbers stay
pub record Kept (s after : Sender) : Type 0 where
  pub next : after.snd_nxt ≡ s.snd_nxt
  pub xmit : after.xmit ≡ s.xmit
  pub dead : after.dead ≡ s.dead

-- ---- what is seen of the numbers that the decisions go by

seen_same : (s : Sender) (m : Store) → ((seen s m).una ≡ s.snd_una) × ((seen s m).next ≡ s.snd_nxt)
unfolding seen
seen_same s m = (refl, refl)

-- ---- `shrink_buf`: no memory changes

seen-shrunk : (s : Sender) (m : Store) → seen (shrunk_at s m) m ≡ shrunk (seen s m)
unfolding seen shrunk_at shrunk
seen-shrunk s m = rw (flying-numbers s m)

-- ---- una

acknowledged-within : (una : ℕ) (l : List ℕ) → acknowledged_by una l ≤ length l
unfolding acknowledged_by
acknowledged-within una [] = zero-le
acknowledged-within una (n ∷ l) = go (after una n) (acknowledged-within una l)
  where
    go : (b : Bool) → acknowledged_by una l ≤ length l → cond b (suc (acknowledged_by una l)) 0 ≤ suc (length l)
    go true h = suc-le-suc h
    go false h = zero-le

module _ (una : ℕ) (s : Sender) (m : Store) (o : Sound 8 s.ring m) where
  abbrev n : ℕ
  n = acknowledged_by una (flying_numbers s.ring m)

  pub acknowledged-flying : n ≤ s.ring.flying
  unfolding flying_numbers
  acknowledged-flying =
      let a = acknowledged-within una (flying_numbers s.ring m) in
      let b = length-map (flight_of 8 s.ring m) (λ (x : Stored). get_or x.row sn 0) ∙ flight-length 8 s.ring m o in
      omega arith

  abbrev later : Sender
  later = with_snd_ring s (dropped s.ring m.marks n)

  seen-dropped : seen later m ≡ with_flying (seen s m) (drop n (seen s m).flying)
  unfolding seen
  seen-dropped =
      let l = loosened 8 s.ring m o in
      rw (
        drop-flight 8 s.ring m l n acknowledged-flying,
        drop-waiting 8 s.ring m l n acknowledged-flying,
        map-drop segment_of n (flight_of 8 s.ring m),
      )

  pub seen-una : seen (una_at una s m) m ≡ parse_una una (seen s m)
  unfolding una_at parse_una
  seen-una = seen-shrunk later m ∙ ap shrunk (seen-dropped ∙ ap (λ (l : List ℕ). with_flying (seen s m) (drop (acknowledged_by una l) (seen s m).flying)) (sym (flying-numbers s m)))

  pub una-sound : Sound 8 (una_at una s m).ring m
  unfolding una_at shrunk_at
  una-sound = drop-sound 8 s.ring m (loosened 8 s.ring m o) n acknowledged-flying

pub una-kept : (una : ℕ) (s : Sender) (m : Store) → Kept s (una_at una s m)
unfolding una_at shrunk_at
una-kept una s m = record { next = refl; xmit = refl; dead = refl }

-- ---- an ack

-- where a segment is in flight, `flying` is not 0
pub live-flying : (r : SndRing) (m : Store) → Sound 8 r m → (i : ℕ) → i < r.reach → (mark_at m.marks r.start i ≡ 0 → ⊥) → 0 < r.flying
live-flying r m o i h live =
    let e = o.marked.counted in
    by_less 0 r.flying (λ a. a) (λ a. let u = count_under 1 m.marks r.start 0 r.reach (omega arith) i (omega arith) (omega arith) in absurd (live (omega arith)))

second : (a b : Bool) → (a && b) ≡ true → b ≡ true
second true b h = h
second false b h = cc

found-meets : (una next x : ℕ) (l : List ℕ) → found una next x l ≡ true → meets x l ≡ true
unfolding found
found-meets una next x l h = second (in_range una next x) (meets x l) h

module _ (x : ℕ) (s : Sender) (m : Store) where
  abbrev is_found : Bool
  is_found = found s.snd_una s.snd_nxt x (flying_numbers s.ring m)

  abbrev i : ℕ
  i = sought x s.ring m 0 s.ring.reach

  -- what holds of either side holds of the choice
  chosen_by : (P : Side → Type 0) → (is_found ≡ true → P (removed_at i s m)) → (is_found ≡ false → P (side s m)) → P (pick is_found (removed_at i s m) (side s m))
  chosen_by P f g = pick_by P is_found (removed_at i s m) (side s m) f g

  pub ack-slots : AsLarge m (ack_at x s m).store
  unfolding ack_at shrunk_side removed_at gapped
  ack-slots =
      chosen_by (λ (y : Side). AsLarge m y.store)
      (λ e. record { marks = length-set m.marks _ 0; rows = refl; room = refl })
      (λ e. record { marks = refl; rows = refl; room = refl })

  pub ack-kept : Kept s (ack_at x s m).sender
  unfolding ack_at shrunk_side shrunk_at removed_at
  ack-kept =
      chosen_by (λ (y : Side). Kept s (shrunk_at y.sender y.store))
      (λ e. record { next = refl; xmit = refl; dead = refl })
      (λ e. record { next = refl; xmit = refl; dead = refl })

  module _ (o : Sound 8 s.ring m) where
    module _ (e : is_found ≡ true) where
      met : Met x s.ring m i
      met = sought_is x s.ring m (found-meets s.snd_una s.snd_nxt x (flying_numbers s.ring m) e)

      seen-removed : seen (removed_at i s m).sender (removed_at i s m).store ≡ with_flying (seen s m) (removed (seen s m).flying (seek x (flying_numbers s.ring m)))
      unfolding seen removed_at
      seen-removed =
          rw (
            take-flight 8 s.ring m o i met.flies met.live,
            take-waiting 8 s.ring m o i met.flies met.live,
            met.rank,
            map-removed segment_of (flight_of 8 s.ring m) (seek x (flying_numbers s.ring m)),
          )

      pub removed-sound : Sound 8 (removed_at i s m).sender.ring (removed_at i s m).store
      unfolding removed_at
      removed-sound = take-sound 8 s.ring m o i met.flies met.live

      pub found-flying : (i < s.ring.reach) × (0 < s.ring.flying)
      found-flying = (met.flies, live-flying s.ring m o i met.flies met.live)

    abbrev rule : List ℕ → Sending
    rule l = cond (found s.snd_una s.snd_nxt x l) (with_flying (seen s m) (removed (seen s m).flying (seek x l))) (seen s m)

    pub seen-ack : seen (ack_at x s m).sender (ack_at x s m).store ≡ parse_ack x (seen s m)
    unfolding ack_at shrunk_side parse_ack
    seen-ack =
        seen-shrunk _ _
        ∙ ap shrunk
        (chosen_by (λ (y : Side). seen y.sender y.store ≡ rule (flying_numbers s.ring m)) (λ e. rw e (seen-removed e)) (λ e. rw e)
        ∙ rw ((seen_same s m).0, (seen_same s m).1, flying-numbers s m))

    pub ack-sound : Sound 8 (ack_at x s m).sender.ring (ack_at x s m).store
    unfolding ack_at shrunk_side shrunk_at
    ack-sound = chosen_by (λ (y : Side). Sound 8 y.sender.ring y.store) removed-sound (λ e. o)

-- ---- fastack: one index

module _ (ack late : ℕ) (r : SndRing) (i : ℕ) (m : Store) where
  abbrev q : ℕ
  q = place (length m.marks) r.start i

  abbrev v : ℕ
  v = fastack_of ack late (number_in r m i sn) (number_in r m i ts) (number_in r m i fastack)

  one-gap : mark_at m.marks r.start i ≡ 0 → raised_one ack late r i m ≡ m
  unfolding raised_one
  one-gap h = rw (eq-eqb (mark_at m.marks r.start i) 0 h)

  one-live : (mark_at m.marks r.start i ≡ 0 → ⊥) → raised_one ack late r i m ≡ renumbered 8 m q fastack v
  unfolding raised_one
  one-live h = rw (ne_eqb (mark_at m.marks r.start i) 0 h)

  -- by cases
  by_one : (P : Store → Type 0) → (mark_at m.marks r.start i ≡ 0 → P m) → ((mark_at m.marks r.start i ≡ 0 → ⊥) → P (renumbered 8 m q fastack v)) → P (raised_one ack late r i m)
  by_one P f g = by-live (mark_at m.marks r.start i) (λ h e. rw (one-gap h) (f h)) (λ h e. rw (one-live h) (g h))

  one-marks : (raised_one ack late r i m).marks ≡ m.marks
  one-marks = by_one (λ (y : Store). y.marks ≡ m.marks) (λ h. refl) (λ h. refl)

  one-room : (raised_one ack late r i m).room ≡ m.room
  one-room = by_one (λ (y : Store). y.room ≡ m.room) (λ h. refl) (λ h. refl)

  -- another fastack
  refresh : (row payload : List ℕ) (x : ℕ) → length row ≡ 8 → x ≡ fastack_of ack late (get_or row sn 0) (get_or row ts 0) (get_or row fastack 0)
      → segment_of (numbered fastack x (segment row payload)) ≡ raised ack late (segment_of (segment row payload))
  refresh row payload x h e =
      rw (
        get_or-set_other row 6 0 x 0 (λ z. omega arith),
        get_or-set_other row 6 1 x 0 (λ z. omega arith),
        get_or-set_other row 6 2 x 0 (λ z. omega arith),
        get_or-set_other row 6 3 x 0 (λ z. omega arith),
        get_or-set_other row 6 4 x 0 (λ z. omega arith),
        get_or-set_other row 6 5 x 0 (λ z. omega arith),
        get_or-set_other row 6 7 x 0 (λ z. omega arith),
        get_or-set_same row 6 x 0 (omega arith),
        e,
      )

  module _ (o : Sound 8 r m) (flies : i < r.reach) where
    below : i < length m.marks
    below = let a = o.shaped.many in omega arith

    within : q < length m.marks
    within = place_in (length m.marks) r.start i o.shaped.inside (omega (arith, below))

    one-sound : Sound 8 r (raised_one ack late r i m)
    one-sound = by_one (Sound 8 r) (λ h. o) (λ h. renumber-sound 8 r m o i flies fastack v (omega arith))

    one-other : (j : ℕ) → j < r.reach + r.unsent → (j ≡ i → ⊥)
        → cell 8 (raised_one ack late r i m) (place (length m.marks) r.start j) ≡ cell 8 m (place (length m.marks) r.start j)
    one-other j h d =
        let a = o.shaped.many in
        by_one (λ (y : Store). cell 8 y (place (length m.marks) r.start j) ≡ cell 8 m (place (length m.marks) r.start j)) (λ z. refl)
        (λ z. number-other 8 m o.shaped.sized q within fastack v (omega arith) (place (length m.marks) r.start j)
        (place-apart (length m.marks) r.start j i o.shaped.inside (omega arith) below d))

    one-own : map segment_of (cell 8 (raised_one ack late r i m) q) ≡ map (λ (x : Stored). raised ack late (segment_of x)) (cell 8 m q)
    one-own =
        by_one (λ (y : Store). map segment_of (cell 8 y q) ≡ map (λ (x : Stored). raised ack late (segment_of x)) (cell 8 m q))
        (λ z. rw (cell-gap 8 m q z))
        (λ z.
        let a = in_rows 8 m o.shaped.sized q within in
        let b = part_length m.rows (q * 8 + 0) 8 (omega arith) in
        let e : v ≡ fastack_of ack late (get_or (segment_at 8 m q).row sn 0) (get_or (segment_at 8 m q).row ts 0) (get_or (segment_at 8 m q).row fastack 0) =
        rw (part_slot-number 8 m.rows q 8 sn (omega arith), part_slot-number 8 m.rows q 8 ts (omega arith), part_slot-number 8 m.rows q 8 fastack (omega arith)) in
        ap (map segment_of) (number-own 8 m o.shaped.sized q within fastack v (omega arith) z)
        ∙ rw (cell-live 8 m q z) (ap (λ (x : Segment). x ∷ []) (refresh (segment_at 8 m q).row (segment_at 8 m q).payload v b e)))

-- ---- the walk over the n indices from i on

module _ (ack late : ℕ) (r : SndRing) where
  abbrev step : Stored → Segment
  step x = raised ack late (segment_of x)

  walk-marks : (i n : ℕ) (m : Store) → (raised_from ack late r i n m).marks ≡ m.marks
  unfolding raised_from
  walk-marks i zero m = refl
  walk-marks i (suc n) m = walk-marks (suc i) n (raised_one ack late r i m) ∙ one-marks ack late r i m

  walk-room : (i n : ℕ) (m : Store) → (raised_from ack late r i n m).room ≡ m.room
  unfolding raised_from
  walk-room i zero m = refl
  walk-room i (suc n) m = walk-room (suc i) n (raised_one ack late r i m) ∙ one-room ack late r i m

  walk-sound : (i n : ℕ) (m : Store) → Sound 8 r m → i + n ≤ r.reach → Sound 8 r (raised_from ack late r i n m)
  unfolding raised_from
  walk-sound i zero m o h = o
  walk-sound i (suc n) m o h = walk-sound (suc i) n (raised_one ack late r i m) (one-sound ack late r i m o (omega arith)) (omega arith)

  -- what stands at another index stays
  walk-other : (i n : ℕ) (m : Store) → Sound 8 r m → i + n ≤ r.reach → (j : ℕ) → j < r.reach + r.unsent → (i ≤ j → j < i + n → ⊥)
      → cell 8 (raised_from ack late r i n m) (place (length m.marks) r.start j) ≡ cell 8 m (place (length m.marks) r.start j)
  unfolding raised_from
  walk-other i zero m o h j k d = refl
  walk-other i (suc n) m o h j k d =
      let m' = raised_one ack late r i m in
      subst (λ (p : ℕ). cell 8 (raised_from ack late r (suc i) n m') (place p r.start j) ≡ cell 8 m' (place p r.start j)) (ap length (one-marks ack late r i m))
      (walk-other (suc i) n m' (one-sound ack late r i m o (omega arith)) (omega arith) j k (λ a b. d (omega arith) (omega arith)))
      ∙ one-other ack late r i m o (omega arith) j k (λ e. d (omega arith) (omega arith))

  walk-seen : (i n : ℕ) (m : Store) → Sound 8 r m → i + n ≤ r.reach
      → map segment_of (memory.seen 8 (raised_from ack late r i n m) r.start i n) ≡ map step (memory.seen 8 m r.start i n)
  unfolding raised_from
  walk-seen i zero m o h = rw (seen_none 8 m r.start i)
  walk-seen i (suc n) m o h =
      let m' = raised_one ack late r i m in
      let o' = one-sound ack late r i m o (omega arith) in
      let e = ap length (walk-marks (suc i) n m' ∙ one-marks ack late r i m) in
      let here =
      subst (λ (p : ℕ). cell 8 (raised_from ack late r (suc i) n m') (place p r.start i) ≡ cell 8 m' (place p r.start i)) (ap length (one-marks ack late r i m))
      (walk-other (suc i) n m' o' (omega arith) i (omega arith) (λ a b. omega arith)) in
      let behind = seen-kept 8 m m' r.start (suc i) n (ap length (one-marks ack late r i m)) (λ j a b. one-other ack late r i m o (omega arith) j (omega arith) (λ q. omega arith)) in
      rw (
        seen_first (raised_from ack late r (suc i) n m') r.start i n,
        seen_first m r.start i n,
        map_append segment_of,
        map_append step,
        e,
        here,
        one-own ack late r i m o (omega arith),
        walk-seen (suc i) n m' o' (omega arith),
        behind,
      )

-- ---- `parse_fastack`

module _ (l : Ack) (s : Sender) (m : Store) (o : Sound 8 s.ring m) where
  abbrev walked : Store
  walked = raised_from l.sn l.ts s.ring 0 s.ring.reach m

  walked-flight : map segment_of (flight_of 8 s.ring walked) ≡ map (raised l.sn l.ts) (map segment_of (flight_of 8 s.ring m))
  unfolding flight_of
  walked-flight =
      walk-seen l.sn l.ts s.ring 0 s.ring.reach m o (omega arith)
      ∙ sym (map-map (raised l.sn l.ts) segment_of (memory.seen 8 m s.ring.start 0 s.ring.reach))

  walked-waiting : waiting_of 8 s.ring walked ≡ waiting_of 8 s.ring m
  unfolding waiting_of
  walked-waiting =
      seen-kept 8 m walked s.ring.start s.ring.reach s.ring.unsent (ap length (walk-marks l.sn l.ts s.ring 0 s.ring.reach m))
      (λ j a b. walk-other l.sn l.ts s.ring 0 s.ring.reach m o (omega arith) j b (λ c d. omega arith))

  seen-walked : seen s walked ≡ with_flying (seen s m) (map (raised l.sn l.ts) (seen s m).flying)
  unfolding seen
  seen-walked = rw (walked-flight, walked-waiting)

pub seen-fastack : (l : Option Ack) (s : Sender) (m : Store) → Sound 8 s.ring m → seen s (fastack_at l s m) ≡ parse_fastack l (seen s m)
unfolding fastack_at parse_fastack
seen-fastack None s m o = refl
seen-fastack (Some l) s m o =
    pick_by (λ (y : Store). seen s y ≡ cond (in_range s.snd_una s.snd_nxt l.sn) (with_flying (seen s m) (map (raised l.sn l.ts) (seen s m).flying)) (seen s m))
    (in_range s.snd_una s.snd_nxt l.sn) (walked l s m o) m (λ e. rw e (seen-walked l s m o)) (λ e. rw e)
    ∙ rw ((seen_same s m).0, (seen_same s m).1)

-- what holds of the memory walked, by any ack, and as it was, holds of the outcome
fastack_by : (l : Option Ack) (s : Sender) (m : Store) (P : Store → Type 0) → ((a : Ack) → P (raised_from a.sn a.ts s.ring 0 s.ring.reach m)) → P m → P (fastack_at l s m)
unfolding fastack_at
fastack_by None s m P f p = p
fastack_by (Some l) s m P f p =
    pick_by P (in_range s.snd_una s.snd_nxt l.sn) (raised_from l.sn l.ts s.ring 0 s.ring.reach m) m (λ e. f l) (λ e. p)

module _ (l : Option Ack) (s : Sender) (m : Store) (o : Sound 8 s.ring m) where
  pub fastack-sound : Sound 8 s.ring (fastack_at l s m)
  fastack-sound = fastack_by l s m (Sound 8 s.ring) (λ a. walk-sound a.sn a.ts s.ring 0 s.ring.reach m o (omega arith)) o

  -- marks and room stay
  fastack-marks : (fastack_at l s m).marks ≡ m.marks
  fastack-marks = fastack_by l s m (λ (y : Store). y.marks ≡ m.marks) (λ a. walk-marks a.sn a.ts s.ring 0 s.ring.reach m) refl

  fastack-room : (fastack_at l s m).room ≡ m.room
  fastack-room = fastack_by l s m (λ (y : Store). y.room ≡ m.room) (λ a. walk-room a.sn a.ts s.ring 0 s.ring.reach m) refl

  pub fastack-slots : AsLarge m (fastack_at l s m)
  fastack-slots = record {
    marks = ap length fastack-marks;
    rows = fastack-sound.shaped.sized.rows-size ∙ ap (λ (k : List ℕ). length k * 8) fastack-marks ∙ sym o.shaped.sized.rows-size;
    room = ap length fastack-room;
  }
