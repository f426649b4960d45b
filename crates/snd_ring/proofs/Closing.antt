-- What stands in a ring while its gaps are closed, and after. Assumes nothing.
use mathlib.Core.Path.{◌≡◌, refl, sym, ap, subst⁻¹, ◌∙◌}
use Prim.Native.Nat.{ℕ, zero, suc, ◌+◌, ◌-◌, ◌*◌, ◌≤◌, ◌<◌}
use native.Mathlib.Omega.{arith}
use native.Mathlib.Decide.{ℕ_discrete}
use mathlib.Core.List.{List, [], ◌++◌, append_assoc, append-nil}
use lib.ListN.{length, get_or, set}
use Rattle.ring.specs.Places.{place}
use Rattle.ring.specs.Records.{part_slot}
use Rattle.ring.proofs.Rows.{part_length}
use Rattle.ring.proofs.Places.{place_in, place-zero}
use Rattle.ring.proofs.Counting.{least_le, count_none, count_le}
use Rattle.snd_ring.specs.Marks.{live_of, mark_at, lives}
use Rattle.snd_ring.specs.Store.{Store, Stored, seen, flight_of, waiting_of, Sized, Sound}
use Rattle.snd_ring.specs.Steps.{ring, written, settled, slid_one, slid, closed, closed_ring}
use Rattle.snd_ring.specs.declared.SndRing.{SndRing}
use Rattle.snd_ring.proofs.Marks.{by-live, live_no, live_yes}
use Rattle.snd_ring.proofs.Tests.{all_live}
use Rattle.snd_ring.proofs.Views.{cell-gap, cell-live, seen_add, seen_one, seen_none, seen-own, seen_other, seen-shift, mark-shift, in_rows, in-room, written-slots, written-sized, mark-own, mark-other, lives-other, lives_more}
use Rattle.snd_ring.proofs.Fronts.{settle-flight, settle-waiting, settle-sound}
use Rattle.snd_ring.proofs.Slides.{slid-gap, slid_move}

-- ---- one segment moves from index i to the index before `to`

module _ (w : ℕ) (m : Store) (s i to : ℕ) (z : Sized w m) (inside : s < length m.marks) (lower : i < to) (bound : to ≤ length m.marks)
    (fit : mark_at m.marks s i ≤ 1477) (live : mark_at m.marks s i ≡ 0 → ⊥) where
  abbrev a : ℕ
  a = place (length m.marks) s i

  abbrev b : ℕ
  b = place (length m.marks) s (to - 1)

  abbrev k : ℕ
  k = get_or m.marks a 0

  abbrev x : List ℕ
  x = part_slot w m.rows a 0 w

  abbrev y : List ℕ
  y = part_slot 1476 m.room a 0 (k - 1)

  from_in : a < length m.marks
  from_in = place_in (length m.marks) s i inside (omega arith)

  to_in : b < length m.marks
  to_in = place_in (length m.marks) s (to - 1) inside (omega arith)

  whole : length x ≡ w
  whole = let h = in_rows w m z a from_in in part_length m.rows (a * w + 0) w (omega arith)

  long : length y ≡ k - 1
  long = let h = in-room w m z a from_in in part_length m.room (a * 1476 + 0) (k - 1) (omega arith)

  size : k ≡ length y + 1
  size = let e = long in omega (arith, live)

  short : length y ≤ 1476
  short = let e = long in omega arith

  move-slots : length (slid_one w m s i to).marks ≡ length m.marks
  move-slots = rw (slid_move w m s i to live) (written-slots w m z b to_in k x y whole size short)

  move-sized : Sized w (slid_one w m s i to)
  move-sized = rw (slid_move w m s i to live) (written-sized w m z b to_in k x y whole size short)

  move-marks : (slid_one w m s i to).marks ≡ set m.marks b k
  unfolding written
  move-marks = rw (slid_move w m s i to live)

  -- the index before `to` has the segment, and the others have what they had
  move-own : seen w (slid_one w m s i to) s (to - 1) 1 ≡ seen w m s i 1
  move-own = rw (slid_move w m s i to live) (seen-own w m z s (to - 1) inside (omega arith) k x y whole size short ∙ sym (cell-live w m a live) ∙ sym (seen_one w m s i))

  move-other : (from n : ℕ) → from + n ≤ length m.marks → ((j : ℕ) → from ≤ j → j < from + n → j ≡ to - 1 → ⊥)
      → ((j : ℕ) → from ≤ j → j < from + n → mark_at m.marks s j ≤ 1477) → seen w (slid_one w m s i to) s from n ≡ seen w m s from n
  move-other from n h d g = rw (slid_move w m s i to live) (seen_other w m z s (to - 1) inside (omega arith) k x y whole size short from n h d g)

-- ---- one turn, whether a gap or a segment stands at index i

module _ (w : ℕ) (m : Store) (s i to : ℕ) (z : Sized w m) (inside : s < length m.marks) (lower : i < to) (bound : to ≤ length m.marks)
    (fit : mark_at m.marks s i ≤ 1477) where
  abbrev turned : Store
  turned = slid_one w m s i to

  pub turn-slots : length turned.marks ≡ length m.marks
  turn-slots =
      by-live (mark_at m.marks s i)
      (λ h e. ap (λ (p : Store). length p.marks) (slid-gap w m s i to h))
      (λ h e. move-slots w m s i to z inside lower bound fit h)

  pub turn-sized : Sized w turned
  turn-sized =
      by-live (mark_at m.marks s i)
      (λ h e. rw (slid-gap w m s i to h) z)
      (λ h e. move-sized w m s i to z inside lower bound fit h)

  -- the marks at other indices than the one before `to` are as they were
  pub turn-marks : (j : ℕ) → j < length m.marks → (j ≡ to - 1 → ⊥) → mark_at turned.marks s j ≡ mark_at m.marks s j
  turn-marks j h d =
      by-live (mark_at m.marks s i)
      (λ g e. ap (λ (p : Store). mark_at p.marks s j) (slid-gap w m s i to g))
      (λ g e. ap (λ (l : List ℕ). mark_at l s j) (move-marks w m s i to z inside lower bound fit g) ∙ mark-other m.marks s (to - 1) _ inside (omega arith) j h d)

-- ---- `slide_all`: what is left to slide from here is the whole

pub record Going (w s n : ℕ) (m₀ m : Store) (i to : ℕ) : Type 0 where
  pub slots : length m.marks ≡ length m₀.marks
  pub sized : Sized w m
  pub order : i ≤ to
  pub bound : to ≤ n
  pub low : (j : ℕ) → j < i → mark_at m.marks s j ≤ 1477
  pub rest : slid w m s i to ≡ slid w m₀ s n n

module _ (w s n : ℕ) (m₀ : Store) (inside : s < length m₀.marks) (few : n ≤ length m₀.marks) where
  pub going-first : Sized w m₀ → ((j : ℕ) → j < n → mark_at m₀.marks s j ≤ 1477) → Going w s n m₀ m₀ n n
  going-first z f = record { slots = refl; sized = z; order = omega arith; bound = omega arith; low = f; rest = refl }

  slid-turn : (m : Store) (i to : ℕ) → 0 < i → slid w m s i to ≡ slid w (slid_one w m s (i - 1) to) s (i - 1) (to - live_of (mark_at m.marks s (i - 1)))
  unfolding slid
  slid-turn m (suc i) to h = let e : suc i - 1 ≡ i = omega arith in rw e
  slid-turn m zero to h = absurd (omega arith)

  pub going-turn : (m m' : Store) (i to to' : ℕ) → 0 < i → Going w s n m₀ m i to → to' ≡ to - live_of (mark_at m.marks s (i - 1)) → m' ≡ slid_one w m s (i - 1) to
      → Going w s n m₀ m' (i - 1) to'
  going-turn m m' i to to' h g e f =
      let l = g.slots in
      let o = g.order in
      let b = g.bound in
      let q = g.low (i - 1) (omega arith) in
      let d : i - 1 < to = omega arith in
      let t : to ≤ length m.marks = omega arith in
      let k : s < length m.marks = omega arith in
      let c = least_le 1 (mark_at m.marks s (i - 1)) in
      rw f
      (record {
        slots = turn-slots w m s (i - 1) to g.sized k d t q ∙ l;
        sized = turn-sized w m s (i - 1) to g.sized k d t q;
        order = omega arith;
        bound = omega arith;
        low = λ j a. rw (turn-marks w m s (i - 1) to g.sized k d t q j (omega arith) (λ p. omega arith)) (g.low j (omega arith));
        rest = rw e (sym (slid-turn m i to h) ∙ g.rest);
      })

  pub going-last : (m : Store) (to : ℕ) → Going w s n m₀ m 0 to → m ≡ slid w m₀ s n n
  unfolding slid
  going-last m to g = g.rest

-- ---- `close`

pub flying-few : (w : ℕ) (r : SndRing) (m : Store) → Sound w r m → r.flying ≤ r.reach
flying-few w r m o = let e = o.marked.counted in let h = count_le 1 m.marks r.start 0 r.reach in omega arith

pub closed_by : (p : ℕ) (r : SndRing) (q : ℕ) → q ≡ place p r.start (r.reach - r.flying) → settled (ring q r.flying r.flying r.unsent) ≡ closed_ring p r
unfolding closed_ring
closed_by p r q e = rw e

pub closed-store : (w : ℕ) (r : SndRing) (m : Store) → slid w m r.start r.reach r.reach ≡ closed w r m
unfolding closed
closed-store w r m = refl

-- while the gaps are closed: the first n indices are still to slide, those from `to` on are full, and `all` are in use
pub record Sliding (w s reach all : ℕ) (m : Store) (n to : ℕ) : Type 0 where
  pub sized : Sized w m
  pub inside : s < length m.marks
  pub order : n ≤ to
  pub bound : to ≤ reach
  pub under : reach ≤ all
  pub many : all ≤ length m.marks
  pub low : (j : ℕ) → j < n → mark_at m.marks s j ≤ 1477
  pub high : (j : ℕ) → to ≤ j → j < all → mark_at m.marks s j ≤ 1477
  pub full : (j : ℕ) → to ≤ j → j < all → mark_at m.marks s j ≡ 0 → ⊥

-- what is in flight then: the first n indices, and those from `to` on
abbrev pub aloft : ℕ → ℕ → ℕ → Store → ℕ → ℕ → List Stored
aloft w s reach m n to = seen w m s 0 n ++ seen w m s to (reach - to)

module _ (w s reach all : ℕ) where
  -- a gap: nothing moves
  gap-turn : (m : Store) (n to : ℕ) → Sliding w s reach all m (suc n) to → Sliding w s reach all m n to
  gap-turn m n to g = record {
    sized = g.sized;
    inside = g.inside;
    order = let o = g.order in omega arith;
    bound = g.bound;
    under = g.under;
    many = g.many;
    low = λ j a. g.low j (omega arith);
    high = g.high;
    full = g.full;
  }

  gap-flying : (m : Store) (n to : ℕ) → mark_at m.marks s n ≡ 0 → aloft w s reach m (suc n) to ≡ aloft w s reach m n to
  gap-flying m n to h =
      let e : suc n ≡ n + 1 = omega arith in
      let z : 0 + n ≡ n = omega arith in
      rw (e, seen_add w m s 0 n 1, z, seen_one w m s n, cell-gap w m (place (length m.marks) s n) h, append-nil)

  module _ (m : Store) (n to : ℕ) (g : Sliding w s reach all m (suc n) to) (live : mark_at m.marks s n ≡ 0 → ⊥) where
    lower : n < to
    lower = let o = g.order in omega arith

    upper : to ≤ length m.marks
    upper = let a = g.bound in let b = g.under in let d = g.many in omega arith

    abbrev next : Store
    next = slid_one w m s n to

    fits-here : mark_at m.marks s n ≤ 1477
    fits-here = g.low n (omega arith)

    next-slots : length next.marks ≡ length m.marks
    next-slots = turn-slots w m s n to g.sized g.inside lower upper fits-here

    next-own : mark_at next.marks s (to - 1) ≡ mark_at m.marks s n
    next-own =
        let l = lower in
        let u = upper in
        ap (λ (l : List ℕ). mark_at l s (to - 1)) (move-marks w m s n to g.sized g.inside lower upper fits-here live)
        ∙ mark-own m.marks s (to - 1) _ g.inside (omega arith)

    next-other : (j : ℕ) → j < length m.marks → (j ≡ to - 1 → ⊥) → mark_at next.marks s j ≡ mark_at m.marks s j
    next-other = turn-marks w m s n to g.sized g.inside lower upper fits-here

    move-turn : Sliding w s reach all next n (to - 1)
    move-turn =
        let l = lower in
        let u = upper in
        let e = next-slots in
        record {
          sized = turn-sized w m s n to g.sized g.inside lower upper fits-here;
          inside = let a = g.inside in omega arith;
          order = omega arith;
          bound = let b = g.bound in omega arith;
          under = g.under;
          many = let a = g.many in omega arith;
          low = λ j a. rw (next-other j (omega arith) (λ q. omega arith)) (g.low j (omega arith));
          high = λ j a b. high_or j a b (ℕ_discrete j (to - 1));
          full = λ j a b. full_or j a b (ℕ_discrete j (to - 1));
        }
      where
        high_or : (j : ℕ) → to - 1 ≤ j → j < all → Dec (j ≡ to - 1) → mark_at next.marks s j ≤ 1477
        high_or j a b (yes e) = rw (e, next-own) fits-here
        high_or j a b (no d) = let o = g.many in rw (next-other j (omega arith) d) (g.high j (omega arith) b)

        full_or : (j : ℕ) → to - 1 ≤ j → j < all → Dec (j ≡ to - 1) → mark_at next.marks s j ≡ 0 → ⊥
        full_or j a b (yes e) z = live (sym next-own ∙ ap (mark_at next.marks s) (sym e) ∙ z)
        full_or j a b (no d) z = let o = g.many in g.full j (omega arith) b (sym (next-other j (omega arith) d) ∙ z)

    -- what stands at indices of either part but the one before `to`
    next-seen : (from k : ℕ) → from + k ≤ all → ((j : ℕ) → from ≤ j → j < from + k → j ≡ to - 1 → ⊥) → ((j : ℕ) → from ≤ j → j < from + k → mark_at m.marks s j ≤ 1477)
        → seen w next s from k ≡ seen w m s from k
    next-seen from k h d f =
        let o = g.many in
        move-other w m s n to g.sized g.inside lower upper fits-here live from k (omega arith) d f

    move-flying : aloft w s reach m (suc n) to ≡ aloft w s reach next n (to - 1)
    move-flying =
        let l = lower in
        let b = g.bound in
        let v = g.under in
        let e : suc n ≡ n + 1 = omega arith in
        let z : 0 + n ≡ n = omega arith in
        let q : reach - (to - 1) ≡ 1 + (reach - to) = omega arith in
        let t : to - 1 + 1 ≡ to = omega arith in
        rw (
          e,
          seen_add w m s 0 n 1,
          z,
          q,
          seen_add w next s (to - 1) 1 (reach - to),
          t,
          move-own w m s n to g.sized g.inside lower upper fits-here live,
          next-seen 0 n (omega arith) (λ j a b e. omega arith) (λ j a b. g.low j (omega arith)),
          next-seen to (reach - to) (omega arith) (λ j a b e. omega arith) (λ j a b. g.high j (omega arith) (omega arith)),
          append_assoc,
        )

    move-waiting : seen w next s reach (all - reach) ≡ seen w m s reach (all - reach)
    move-waiting =
        let l = lower in
        let b = g.bound in
        let v = g.under in
        next-seen reach (all - reach) (omega arith) (λ j a b e. omega arith) (λ j a b. g.high j (omega arith) (omega arith))

    move-lives : lives next.marks s 0 n ≡ lives m.marks s 0 n
    move-lives =
        let l = lower in
        let u = upper in
        ap (λ (l : List ℕ). lives l s 0 n) (move-marks w m s n to g.sized g.inside lower upper fits-here live)
        ∙ lives-other m.marks s (to - 1) _ g.inside (omega arith) 0 n (omega arith) (λ j a b e. omega arith)

  -- ---- all turns

  pub record Done (m : Store) (n to : ℕ) (m' : Store) (f : ℕ) : Type 0 where
    pub slots : length m'.marks ≡ length m.marks
    pub end : Sliding w s reach all m' 0 f
    pub flight : aloft w s reach m' 0 f ≡ aloft w s reach m n to
    pub waiting : seen w m' s reach (all - reach) ≡ seen w m s reach (all - reach)

  on-gap : (m : Store) (n to : ℕ) → mark_at m.marks s n ≡ 0 → slid w m s (suc n) to ≡ slid w m s n to
  unfolding slid
  on-gap m n to h = let e : to - 0 ≡ to = omega arith in rw (slid-gap w m s n to h, live_no (mark_at m.marks s n) h, e)

  on-live : (m : Store) (n to : ℕ) → (mark_at m.marks s n ≡ 0 → ⊥) → slid w m s (suc n) to ≡ slid w (slid_one w m s n to) s n (to - 1)
  unfolding slid
  on-live m n to h = rw (live_yes (mark_at m.marks s n) h)

  last-lives : (l : List ℕ) (n : ℕ) → lives l s 0 (suc n) ≡ lives l s 0 n + live_of (mark_at l s n)
  last-lives l n = let e : suc n ≡ n + 1 = omega arith in ap (lives l s 0) e ∙ lives_more l s n

  done : (n : ℕ) (m : Store) (to : ℕ) → Sliding w s reach all m n to → Done m n to (slid w m s n to) (to - lives m.marks s 0 n)
  unfolding slid
  done zero m to g =
      let z = count_none 1 m.marks s 0 in
      let e : to - lives m.marks s 0 0 ≡ to = omega arith in
      rw e (record { slots = refl; end = g; flight = refl; waiting = refl })
  done (suc n) m to g =
      let v = last-lives m.marks n in
      by-live (mark_at m.marks s n)
      (λ h q.
      let d = done n m to (gap-turn m n to g) in
      let e : to - lives m.marks s 0 (suc n) ≡ to - lives m.marks s 0 n = omega arith in
      subst⁻¹ (λ (p : Store). Done m (suc n) to p (to - lives m.marks s 0 (suc n))) (on-gap m n to h)
      (rw e (record { slots = d.slots; end = d.end; flight = d.flight ∙ sym (gap-flying m n to h); waiting = d.waiting })))
      (λ h q.
      let d = done n (slid_one w m s n to) (to - 1) (move-turn m n to g h) in
      let u = move-lives m n to g h in
      let e : to - lives m.marks s 0 (suc n) ≡ to - 1 - lives (slid_one w m s n to).marks s 0 n = omega arith in
      subst⁻¹ (λ (p : Store). Done m (suc n) to p (to - lives m.marks s 0 (suc n))) (on-live m n to h)
      (rw e (record {
        slots = d.slots ∙ next-slots m n to g h;
        end = d.end;
        flight = d.flight ∙ sym (move-flying m n to g h);
        waiting = d.waiting ∙ move-waiting m n to g h;
      })))

-- ---- what stands in the ring once its gaps are closed

module _ (w : ℕ) (r : SndRing) (m : Store) (o : Sound w r m) where
  sliding : Sliding w r.start r.reach (r.reach + r.unsent) m r.reach r.reach
  sliding = record {
    sized = o.shaped.sized;
    inside = o.shaped.inside;
    order = omega arith;
    bound = omega arith;
    under = omega arith;
    many = o.shaped.many;
    low = λ j a. o.marked.fit j (omega arith);
    high = λ j a b. o.marked.fit j b;
    full = λ j a b. o.marked.waits j a b;
  }

  f : ℕ
  f = r.reach - r.flying

  over : Done w r.start r.reach (r.reach + r.unsent) m r.reach r.reach (closed w r m) f
  unfolding closed f
  over = rw o.marked.counted (done w r.start r.reach (r.reach + r.unsent) r.reach m r.reach sliding)

  f-live : r.reach - f ≡ r.flying
  unfolding f
  f-live = let h = flying-few w r m o in omega arith

  f-reach : f + r.flying ≡ r.reach
  unfolding f
  f-reach = let h = flying-few w r m o in omega arith

  -- the ring before it is settled
  abbrev tight : SndRing
  tight = ring (place (length m.marks) r.start f) r.flying r.flying r.unsent

  closed-tight : closed_ring (length m.marks) r ≡ settled tight
  unfolding closed_ring f
  closed-tight = refl

  tight-flight : flight_of w tight (closed w r m) ≡ flight_of w r m
  unfolding flight_of
  tight-flight =
      let d = over in
      let x = f-reach in
      let y = d.end.many in
      let z : f + 0 ≡ f = omega arith in
      let q : r.reach - r.reach ≡ 0 = omega arith in
      rw (← d.slots)
      (seen-shift w (closed w r m) r.start f d.end.inside 0 r.flying (omega arith)
      ∙ ap (λ (i : ℕ). seen w (closed w r m) r.start i r.flying) z
      ∙ ap (seen w (closed w r m) r.start f) (sym f-live)
      ∙ both-parts d.flight)
    where
      nothing_more : (from k : ℕ) → k ≡ 0 → seen w m r.start from k ≡ []
      nothing_more from k e = rw e (seen_none w m r.start from)

      both-parts : aloft w r.start r.reach (closed w r m) 0 f ≡ aloft w r.start r.reach m r.reach r.reach
          → seen w (closed w r m) r.start f (r.reach - f) ≡ seen w m r.start 0 r.reach
      both-parts e =
          sym (ap (λ (x : List Stored). x ++ seen w (closed w r m) r.start f (r.reach - f)) (seen_none w (closed w r m) r.start 0))
          ∙ e
          ∙ rw (nothing_more r.reach (r.reach - r.reach) (omega arith), append-nil)

  tight-waiting : waiting_of w tight (closed w r m) ≡ waiting_of w r m
  unfolding waiting_of
  tight-waiting =
      let d = over in
      let x = f-reach in
      let y = d.end.many in
      let q : r.reach + r.unsent - r.reach ≡ r.unsent = omega arith in
      let v = d.waiting in
      rw (← d.slots)
      (seen-shift w (closed w r m) r.start f d.end.inside r.flying r.unsent (omega arith)
      ∙ rw x (rw q at v))

  tight-sound : Sound w tight (closed w r m)
  tight-sound =
      let d = over in
      let e = d.slots in
      let x = f-reach in
      let y = d.end.many in
      record {
        shaped = record {
          sized = d.end.sized;
          inside = let a = place_in (length m.marks) r.start f o.shaped.inside (omega arith) in omega arith;
          many = omega arith;
        };
        marked = record {
          fit = λ i a. rw (shifted i (omega arith)) (d.end.high (f + i) (omega arith) (omega arith));
          waits = λ i a b. full i (omega arith);
          counted = sym (all_live (closed w r m).marks (place (length m.marks) r.start f) 0 r.flying (λ i a b. full i (omega arith)));
          normal = λ a z. full 0 (omega arith) (first z);
        };
      }
    where
      shifted : (i : ℕ) → i < r.flying + r.unsent → mark_at (closed w r m).marks (place (length m.marks) r.start f) i ≡ mark_at (closed w r m).marks r.start (f + i)
      shifted i a =
          let d = over in
          let x = f-reach in
          let y = d.end.many in
          rw (← d.slots) (mark-shift (closed w r m).marks r.start f d.end.inside i (omega arith))

      full : (i : ℕ) → i < r.flying + r.unsent → mark_at (closed w r m).marks (place (length m.marks) r.start f) i ≡ 0 → ⊥
      full i a z = let x = f-reach in over.end.full (f + i) (omega arith) (omega arith) (sym (shifted i a) ∙ z)

      first : get_or (closed w r m).marks (place (length m.marks) r.start f) 0 ≡ 0 → mark_at (closed w r m).marks (place (length m.marks) r.start f) 0 ≡ 0
      first z =
          let d = over in
          let e = d.slots in
          let x = f-reach in
          let y = d.end.many in
          let a = place_in (length m.marks) r.start f o.shaped.inside (omega arith) in
          ap (λ (q : ℕ). get_or (closed w r m).marks q 0) (place-zero (length (closed w r m).marks) (place (length m.marks) r.start f) (omega arith)) ∙ z

  pub close-flight : flight_of w (closed_ring (length m.marks) r) (closed w r m) ≡ flight_of w r m
  close-flight = rw (closed-tight, settle-flight w tight (closed w r m)) tight-flight

  pub close-waiting : waiting_of w (closed_ring (length m.marks) r) (closed w r m) ≡ waiting_of w r m
  close-waiting = rw (closed-tight, settle-waiting w tight (closed w r m)) tight-waiting

  pub close-sound : Sound w (closed_ring (length m.marks) r) (closed w r m)
  close-sound = rw closed-tight (settle-sound w tight (closed w r m) tight-sound)

  pub close-slots : length (closed w r m).marks ≡ length m.marks
  close-slots = over.slots

  -- no gap is left
  pub close-reach : (closed_ring (length m.marks) r).reach ≡ r.flying
  unfolding closed_ring settled
  close-reach = refl

  pub close-flying : (closed_ring (length m.marks) r).flying ≡ r.flying
  unfolding closed_ring settled
  close-flying = refl

  -- so what is free is what neither flies nor waits
  pub close-free : length m.marks - ((closed_ring (length m.marks) r).reach + (closed_ring (length m.marks) r).unsent) ≡ length m.marks - r.flying - r.unsent
  unfolding closed_ring settled
  close-free = omega arith
