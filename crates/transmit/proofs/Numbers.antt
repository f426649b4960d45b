-- The numbers in flight, from each index on: what the loops over the indices read of them, gaps passed over, and where the search ends. None of it
-- looks at the room. Assumes nothing.
use Prim.Native.Nat.{ℕ, zero, suc, ◌+◌, ◌-◌, ◌/◌, ◌≤◌, ◌<◌}
use native.Mathlib.Omega.{arith}
use native.Mathlib.Decide.{ℕ_discrete}
use native.Mathlib.Numerals.{add-one}
use mathlib.Core.Path.{◌≡◌, refl, sym, ap, ◌∙◌}
use mathlib.Core.Bool.{Bool, true, false}
use mathlib.Core.List.{List, [], ◌∷◌, ◌++◌, map, map-map}
use lib.ListN.{length, get_or}
use borrow.Author.Tests.{lt-ltb, le-ltb, eq-eqb, ne_eqb}
use Rattle.std.proofs.Common.{Some, None}
use Rattle.serial.specs.Branch.{pick, pick_true, pick-false}
use Rattle.serial.specs.Wrap.{after}
use Rattle.ring.specs.Lists.{lists}
use Rattle.ring.specs.Places.{place, along}
use Rattle.ring.specs.Counting.{count}
use Rattle.ring.specs.Records.{number_at}
use Rattle.ring.proofs.Places.{by_less, along-first, place-zero}
use Rattle.ring.proofs.Counting.{count_add, count_none, count_single}
use Rattle.ring.proofs.Rows.{part_slot-number}
use Rattle.ring.proofs.Sequences.{map_append}
use Rattle.snd_ring.specs.declared.SndRing.{SndRing}
use Rattle.snd_ring.specs.Marks.{live_of, mark_at}
use Rattle.snd_ring.specs.Store.{Store, store, store_of, Stored, cell, flight_of, Sound}
use Rattle.snd_ring.specs.Store as memory
use Rattle.snd_ring.proofs.Marks.{by-live}
use Rattle.snd_ring.proofs.Splits.{place_by, mark-read}
use Rattle.snd_ring.proofs.Views.{cell-gap, cell-live}
use Rattle.block.specs.declared.sender.Sender.{Sender}
use Rattle.sending.specs.Rules.{Segment, numbers, acknowledged_by, una_of, stops, seek, meets}
use Rattle.transmit.specs.Memory.{sn, segment_of, seen, flying_numbers, number_in, ends_at, ends_in, sought, found_at}

-- ---- those at the n indices from i on

abbrev pub number_of : Stored → ℕ
number_of x = get_or x.row sn 0

abbrev pub numbers_from : Store → ℕ → ℕ → ℕ → List ℕ
numbers_from m s i n = map number_of (memory.seen 8 m s i n)

module _ (m : Store) (s i : ℕ) where
  abbrev q : ℕ
  q = place (length m.marks) s i

  none : numbers_from m s i 0 ≡ []
  unfolding memory.seen along
  none = refl

  pub seen_first : (n : ℕ) → memory.seen 8 m s i (suc n) ≡ cell 8 m q ++ memory.seen 8 m s (suc i) n
  unfolding memory.seen
  seen_first n = along-first (λ (i : ℕ). cell 8 m (place (length m.marks) s i)) i n

  first : (n : ℕ) → numbers_from m s i (suc n) ≡ map number_of (cell 8 m q) ++ numbers_from m s (suc i) n
  first n = ap (map number_of) (seen_first n) ∙ map_append number_of (cell 8 m q) (memory.seen 8 m s (suc i) n)

  -- an index less: a gap, or a segment
  at_gap : (n : ℕ) → mark_at m.marks s i ≡ 0 → numbers_from m s i (suc n) ≡ numbers_from m s (suc i) n
  at_gap n h = first n ∙ rw (cell-gap 8 m q h)

  at-live : (n : ℕ) → (mark_at m.marks s i ≡ 0 → ⊥) → numbers_from m s i (suc n) ≡ number_at 8 m.rows q sn ∷ numbers_from m s (suc i) n
  at-live n h = first n ∙ rw (cell-live 8 m q h, part_slot-number 8 m.rows q 8 sn (omega arith))

-- the room is not looked at
module _ (k l a b : List ℕ) (s : ℕ) where
  from-room : (i n : ℕ) → numbers_from (store k l a) s i n ≡ numbers_from (store k l b) s i n
  from-room i zero = none (store k l a) s i ∙ sym (none (store k l b) s i)
  from-room i (suc n) =
      by-live (mark_at k s i)
      (λ h e. at_gap (store k l a) s i n h ∙ from-room (suc i) n ∙ sym (at_gap (store k l b) s i n h))
      (λ h e. at-live (store k l a) s i n h ∙ rw (from-room (suc i) n) (sym (at-live (store k l b) s i n h)))

pub numbers-room : (r : SndRing) (records a b : List ℕ) → flying_numbers r (store_of 8 (lists records a)) ≡ flying_numbers r (store_of 8 (lists records b))
unfolding flying_numbers flight_of store_of
numbers-room r records a b = from-room _ _ a b r.start 0 r.reach

-- they are those of the segments
pub flying-numbers : (s : Sender) (m : Store) → numbers (seen s m).flying ≡ flying_numbers s.ring m
unfolding seen flying_numbers
flying-numbers s m = map-map (λ (s : Segment). s.sn) segment_of (flight_of 8 s.ring m)

-- ---- THE LAW of the loops: those from index i of the flight on, and one index less

module _ (r : SndRing) (m : Store) where
  abbrev pub left_from : ℕ → List ℕ
  left_from i = numbers_from m r.start i (r.reach - i)

  pub left_all : left_from 0 ≡ flying_numbers r m
  unfolding flying_numbers flight_of
  left_all = let e : r.reach - 0 ≡ r.reach = omega arith in rw e

  module _ (i : ℕ) where
    pub left_none : r.reach ≤ i → left_from i ≡ []
    left_none h = let e : r.reach - i ≡ 0 = omega arith in rw e (none m r.start i)

    module _ (h : i < r.reach) where
      pub less : r.reach - i ≡ suc (r.reach - suc i)
      less = omega arith

      pub left-gap : mark_at m.marks r.start i ≡ 0 → left_from i ≡ left_from (i + 1)
      left-gap z = rw (add-one, less) (at_gap m r.start i (r.reach - suc i) z)

      pub left-live : (mark_at m.marks r.start i ≡ 0 → ⊥) → left_from i ≡ number_in r m i sn ∷ left_from (i + 1)
      left-live z = rw (add-one, less) (at-live m r.start i (r.reach - suc i) z)

-- ---- what the code reads at index i

pub rows-room : (records a b : List ℕ) → (store_of 8 (lists records a)).rows ≡ (store_of 8 (lists records b)).rows
unfolding store_of
rows-room records a b = refl

module _ (r : SndRing) (a b : List ℕ) (i : ℕ) {slots q : ℕ} (e : slots ≡ length a / 9) (p : (q ≡ place slots r.start i) × (q < slots)) where
  abbrev m : Store
  m = store_of 8 (lists a b)

  place_is : q ≡ place (length m.marks) r.start i
  place_is = place_by 8 (lists a b) slots r.start i q e p.0

  pub mark_is : get_or a q 0 ≡ mark_at m.marks r.start i
  mark_is = mark-read 8 a b q 0 (omega arith) ∙ ap (λ (q : ℕ). get_or m.marks q 0) place_is

  pub number_is : (k : ℕ) → number_at 8 (store_of 8 (lists a [])).rows q k ≡ number_in r m i k
  number_is k = rw (rows-room a [] b, ← place_is)

-- ---- `acknowledged_count`

module _ (una : ℕ) (r : SndRing) (m : Store) where
  abbrev pub more : ℕ → ℕ
  more i = acknowledged_by una (left_from r m i)

  pub counts_end : (i : ℕ) → r.reach ≤ i → more i ≡ 0
  unfolding acknowledged_by
  counts_end i h = rw (left_none r m i h)

  module _ (i : ℕ) (h : i < r.reach) (live : mark_at m.marks r.start i ≡ 0 → ⊥) where
    pub counts_on : after una (number_in r m i sn) ≡ true → more i ≡ suc (more (i + 1))
    unfolding acknowledged_by
    counts_on e = rw (left-live r m i h live, e)

    pub counts-stop : after una (number_in r m i sn) ≡ false → more i ≡ 0
    unfolding acknowledged_by
    counts-stop e = rw (left-live r m i h live, e)

-- ---- `shrink`: the front number

module _ (next : ℕ) (r : SndRing) (m : Store) where
  pub una_none : r.reach ≡ 0 → next ≡ una_of next (flying_numbers r m)
  unfolding una_of
  una_none z = rw (← left_all r m, left_none r m 0 (omega arith))

  pub una-front : Sound 8 r m → 0 < r.reach → number_at 8 m.rows r.start sn ≡ una_of next (flying_numbers r m)
  unfolding una_of
  una-front o h =
      let z = place-zero (length m.marks) r.start o.shaped.inside in
      rw (← left_all r m, left-live r m 0 h (rw z (o.marked.normal h)), z)

-- ---- the search over a list

module _ (x n : ℕ) (l : List ℕ) where
  pub seek-here : n ≡ x → seek x (n ∷ l) ≡ 0
  unfolding seek
  seek-here e = rw (eq-eqb n x e)

  pub meets-here : n ≡ x → meets x (n ∷ l) ≡ true
  unfolding meets
  meets-here e = rw (seek-here e, eq-eqb n x e, lt-ltb 0 (suc (length l)) (omega arith))

  module _ (d : n ≡ x → ⊥) where
    seek_stop : stops x n ≡ true → seek x (n ∷ l) ≡ 0
    unfolding seek
    seek_stop s = rw (ne_eqb n x d, s)

    pub meets-stop : stops x n ≡ true → meets x (n ∷ l) ≡ false
    unfolding meets
    meets-stop s = rw (seek_stop s, ne_eqb n x d, lt-ltb 0 (suc (length l)) (omega arith))

    module _ (s : stops x n ≡ false) where
      pub seek_on : seek x (n ∷ l) ≡ suc (seek x l)
      unfolding seek
      seek_on = rw (ne_eqb n x d, s)

      pub meets_on : meets x (n ∷ l) ≡ meets x l
      unfolding meets
      meets_on =
          rw seek_on
          (by_less (seek x l) (length l)
          (λ h. rw (lt-ltb (seek x l) (length l) h, lt-ltb (suc (seek x l)) (suc (length l)) (omega arith)))
          (λ h. rw (le-ltb (seek x l) (length l) h, le-ltb (suc (seek x l)) (suc (length l)) (omega arith))))

pub meets_none : (x : ℕ) → meets x [] ≡ false
unfolding meets
meets_none x = rw (le-ltb (seek x []) 0 (omega arith))

pub by_eq : {A : Type 0} (a b : ℕ) → (a ≡ b → A) → ((a ≡ b → ⊥) → A) → A
by_eq {A} a b f g = go (ℕ_discrete a b)
  where
    go : Dec (a ≡ b) → A
    go (yes e) = f e
    go (no d) = g d

-- ---- the search over the indices

module _ (x : ℕ) (r : SndRing) (m : Store) (i : ℕ) where
  abbrev mark : ℕ
  mark = mark_at m.marks r.start i

  abbrev number : ℕ
  number = number_in r m i sn

  sought_none : sought x r m i 0 ≡ i
  unfolding sought
  sought_none = refl

  sought_on : (n : ℕ) → ends_in x r m i ≡ false → sought x r m i (suc n) ≡ sought x r m (suc i) n
  unfolding sought
  sought_on n e = rw e

  sought-here : (n : ℕ) → ends_in x r m i ≡ true → sought x r m i (suc n) ≡ i
  unfolding sought
  sought-here n e = rw e

  -- a gap does not end it; a segment does by its number, or by one where it stops
  pub gap_on : mark ≡ 0 → ends_in x r m i ≡ false
  unfolding ends_at
  gap_on z = rw (eq-eqb mark 0 z)

  module _ (live : mark ≡ 0 → ⊥) where
    pub here-ends : number ≡ x → ends_in x r m i ≡ true
    unfolding ends_at
    here-ends e = rw (ne_eqb mark 0 live, eq-eqb number x e)

    pub other-ends : (number ≡ x → ⊥) → ends_in x r m i ≡ stops x number
    unfolding ends_at
    other-ends d = rw (ne_eqb mark 0 live, ne_eqb number x d)

  pub ends-live : ends_in x r m i ≡ true → mark ≡ 0 → ⊥
  ends-live e z = let f = sym e ∙ gap_on z in let y : ◌≡◌ {A = ℕ} 0 1 = cc in absurd (omega arith)

-- where the search ends, and whether the number stands there
pub record Ends (x : ℕ) (r : SndRing) (m : Store) (at : ℕ) (met : Bool) : Type 0 where
  pub at_is : at ≡ sought x r m 0 r.reach
  pub met_is : met ≡ meets x (flying_numbers r m)

-- from index i on it ends where the whole of it does, and meets what the whole of it meets
pub record Onward (x : ℕ) (r : SndRing) (m : Store) (i : ℕ) : Type 0 where
  pub ends : sought x r m i (r.reach - i) ≡ sought x r m 0 r.reach
  pub met : meets x (left_from r m i) ≡ meets x (flying_numbers r m)

module _ (x : ℕ) (r : SndRing) (m : Store) where
  pub onward_all : Onward x r m 0
  onward_all = record { ends = let e : r.reach - 0 ≡ r.reach = omega arith in rw e; met = ap (meets x) (left_all r m) }

  module _ (i : ℕ) (o : Onward x r m i) where
    -- it ends here
    ends-at : (t : Bool) → sought x r m i (r.reach - i) ≡ i → meets x (left_from r m i) ≡ t → Ends x r m i t
    ends-at t e f = record { at_is = sym e ∙ o.ends; met_is = sym f ∙ o.met }

    -- or goes on
    goes_on : sought x r m i (r.reach - i) ≡ sought x r m (i + 1) (r.reach - (i + 1)) → meets x (left_from r m i) ≡ meets x (left_from r m (i + 1)) → Onward x r m (i + 1)
    goes_on e f = record { ends = sym e ∙ o.ends; met = sym f ∙ o.met }

    pub ends_none : r.reach ≤ i → Ends x r m i false
    ends_none h = let e : r.reach - i ≡ 0 = omega arith in ends-at false (rw e (sought_none x r m i)) (rw (left_none r m i h) (meets_none x))

    module _ (h : i < r.reach) where
      pub onward_on : ends_in x r m i ≡ false → Onward x r m (i + 1)
      onward_on e =
          goes_on (rw (add-one, less r m i h) (sought_on x r m i (r.reach - suc i) e))
          (by-live (mark_at m.marks r.start i)
          (λ z _. ap (meets x) (left-gap r m i h z))
          (λ z _.
          by_eq (number_in r m i sn) x
          (λ f. let g = sym e ∙ here-ends x r m i z f in let y : ◌≡◌ {A = ℕ} 0 1 = cc in absurd (omega arith))
          (λ d. rw (left-live r m i h z) (meets_on x _ _ d (sym (other-ends x r m i z d) ∙ e)))))

      module _ (e : ends_in x r m i ≡ true) where
        pub ends-here : number_in r m i sn ≡ x → Ends x r m i true
        ends-here f = ends-at true (rw (less r m i h) (sought-here x r m i (r.reach - suc i) e)) (rw (left-live r m i h (ends-live x r m i e)) (meets-here x _ _ f))

        pub ends-stop : (number_in r m i sn ≡ x → ⊥) → Ends x r m i false
        ends-stop d =
            let live = ends-live x r m i e in
            ends-at false (rw (less r m i h) (sought-here x r m i (r.reach - suc i) e)) (rw (left-live r m i h live) (meets-stop x _ _ d (sym (other-ends x r m i live d) ∙ e)))

  -- it passed k indices
  pub onward_to : (k : ℕ) → k ≤ r.reach → ((j : ℕ) → j < k → ends_in x r m j ≡ false) → Onward x r m k
  onward_to zero h f = onward_all
  onward_to (suc k) h f = rw (← add-one) (onward_on k (onward_to k (omega arith) (λ j l. f j (omega arith))) (omega arith) (f k (omega arith)))

-- the room is not looked at
sought-room : (x : ℕ) (r : SndRing) (k l a b : List ℕ) (i n : ℕ) → sought x r (store k l a) i n ≡ sought x r (store k l b) i n
unfolding sought ends_at
sought-room x r k l a b i zero = refl
sought-room x r k l a b i (suc n) = rw (sought-room x r k l a b (suc i) n)

ends-room : (x : ℕ) (r : SndRing) (records a b : List ℕ) (at : ℕ) (met : Bool) → Ends x r (store_of 8 (lists records a)) at met → Ends x r (store_of 8 (lists records b)) at met
unfolding store_of
ends-room x r records a b at met e = record {
  at_is = e.at_is ∙ sought-room x r _ _ a b 0 r.reach;
  met_is = e.met_is ∙ ap (meets x) (numbers-room r records a b);
}

-- what the search answers, with any room
module _ (x : ℕ) (r : SndRing) (records : List ℕ) (at : ℕ) (room : List ℕ) where
  pub finds : Ends x r (store_of 8 (lists records [])) at true → Some at ≡ found_at x r (store_of 8 (lists records room))
  unfolding found_at
  finds e =
      let f = ends-room x r records [] room at true e in
      ap (λ (i : ℕ). Some i) f.at_is ∙ sym (pick_true _ _ (sym f.met_is))

  pub finds_none : Ends x r (store_of 8 (lists records [])) at false → None ≡ found_at x r (store_of 8 (lists records room))
  unfolding found_at
  finds_none e = sym (pick-false _ _ (sym (ends-room x r records [] room at false e).met_is))

-- and what an answer says
module _ (x : ℕ) (r : SndRing) (m : Store) where
  pub unmet : None ≡ found_at x r m → meets x (flying_numbers r m) ≡ false
  unfolding found_at pick
  unmet e = go (meets x (flying_numbers r m)) refl e
    where
      go : (t : Bool) → meets x (flying_numbers r m) ≡ t → None ≡ pick t (Some (sought x r m 0 r.reach)) None → meets x (flying_numbers r m) ≡ false
      go true f g = cc
      go false f g = f

  pub met-at : (i : ℕ) → Some i ≡ found_at x r m → Ends x r m i true
  unfolding found_at pick
  met-at i e = go (meets x (flying_numbers r m)) refl e
    where
      go : (t : Bool) → meets x (flying_numbers r m) ≡ t → Some i ≡ pick t (Some (sought x r m 0 r.reach)) None → Ends x r m i true
      go true f g = record { at_is = cc; met_is = sym f }
      go false f g = cc

-- ---- where the number is met: at index j, a segment in flight, with as many before it as the search over the list passes

pub record Met (x : ℕ) (r : SndRing) (m : Store) (j : ℕ) : Type 0 where
  pub flies : j < r.reach
  pub live : mark_at m.marks r.start j ≡ 0 → ⊥
  pub rank : count 1 m.marks r.start 0 j ≡ seek x (flying_numbers r m)

-- the same of the n indices from i on
record Stands (x : ℕ) (r : SndRing) (m : Store) (i n j : ℕ) : Type 0 where
  low : i ≤ j
  high : j < i + n
  live : mark_at m.marks r.start j ≡ 0 → ⊥
  rank : count 1 m.marks r.start i (j - i) ≡ seek x (numbers_from m r.start i n)

count_next : (l : List ℕ) (s i j : ℕ) → i < j → count 1 l s i (j - i) ≡ live_of (mark_at l s i) + count 1 l s (suc i) (j - suc i)
count_next l s i j h =
    let e : j - i ≡ 1 + (j - suc i) = omega arith in
    let f : i + 1 ≡ suc i = omega arith in
    ap (count 1 l s i) e ∙ count_add 1 l s i 1 (j - suc i) ∙ rw (f, count_single 1 l s i)

module _ (x : ℕ) (r : SndRing) (m : Store) where
  -- the search goes on
  stands_on : (i n : ℕ) → sought x r m i (suc n) ≡ sought x r m (suc i) n
      → live_of (mark_at m.marks r.start i) + seek x (numbers_from m r.start (suc i) n) ≡ seek x (numbers_from m r.start i (suc n))
      → Stands x r m (suc i) n (sought x r m (suc i) n) → Stands x r m i (suc n) (sought x r m i (suc n))
  stands_on i n e k f =
      let c = count_next m.marks r.start i (sought x r m (suc i) n) f.low in
      let d = f.rank in
      rw e (record { low = let a = f.low in omega arith; high = let a = f.high in omega arith; live = f.live; rank = omega arith })

  -- or meets it here
  stands_here : (i n : ℕ) → (mark_at m.marks r.start i ≡ 0 → ⊥) → number_in r m i sn ≡ x → Stands x r m i (suc n) (sought x r m i (suc n))
  stands_here i n live e =
      let z : i - i ≡ 0 = omega arith in
      rw (sought-here x r m i n (here-ends x r m i live e))
      (record {
        low = omega arith;
        high = omega arith;
        live = live;
        rank = rw (z, at-live m r.start i n live) (count_none 1 m.marks r.start i ∙ sym (seek-here x _ _ e));
      })

  stands_from : (i n : ℕ) → meets x (numbers_from m r.start i n) ≡ true → Stands x r m i n (sought x r m i n)
  stands_from i zero h = let e = rw (none m r.start i) at h in let f = meets_none x in let z : ◌≡◌ {A = ℕ} 0 1 = cc in absurd (omega arith)
  stands_from i (suc n) h =
      by-live (mark_at m.marks r.start i)
      (λ z e. stands_on i n (sought_on x r m i n (gap_on x r m i z)) (rw (e, at_gap m r.start i n z) (omega arith)) (stands_from (suc i) n (rw (at_gap m r.start i n z) at h)))
      (λ z e.
      by_eq (number_in r m i sn) x
      (stands_here i n z)
      (λ d.
      by_less x (number_in r m i sn)
      (λ s. let b = rw (at-live m r.start i n z) at h in let f = sym b ∙ meets-stop x _ _ d (lt-ltb _ _ s) in let y : ◌≡◌ {A = ℕ} 0 1 = cc in absurd (omega arith))
      (λ s.
      let t = le-ltb _ _ s in
      stands_on i n (sought_on x r m i n (other-ends x r m i z d ∙ t)) (rw (e, at-live m r.start i n z, seek_on x _ _ d t) (omega arith))
      (stands_from (suc i) n (sym (meets_on x _ _ d t) ∙ rw (at-live m r.start i n z) at h)))))

  pub sought_is : meets x (flying_numbers r m) ≡ true → Met x r m (sought x r m 0 r.reach)
  unfolding flying_numbers flight_of
  sought_is h =
      let s = stands_from 0 r.reach h in
      let j = sought x r m 0 r.reach in
      let z : j - 0 ≡ j = omega arith in
      record { flies = let a = s.high in omega arith; live = s.live; rank = rw z at s.rank }
