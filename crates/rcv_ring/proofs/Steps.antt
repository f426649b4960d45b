-- `is_held`, `ready`, `moved` and `dropped`: what they say or change of the queue and of what is held. Assumes nothing.
use Prim.Native.Nat.{ℕ, ◌+◌, ◌-◌, ◌≤◌, ◌<◌, min}
use native.Mathlib.Omega.{arith}
use native.Mathlib.Decide.{ℕ_discrete}
use mathlib.Core.Path.{◌≡◌, ap, ◌∙◌, sym}
use mathlib.Core.Bool.{false}
use mathlib.Core.List.{List, ◌++◌, map}
use lib.ListN.{length, take, drop}
use lib.Seq.{take_at, drop_at}
use borrow.Author.Tests.{lt-ltb, le-ltb, eq-eqb, ne_eqb, eqb-true, not-false}
use Rattle.ring.specs.Lists.{Lists}
use Rattle.ring.specs.Places.{place}
use Rattle.ring.proofs.Places.{by_less, place-place}
use Rattle.rcv_ring.specs.declared.RcvRing.{RcvRing}
use Rattle.rcv_ring.specs.Places.{mark_at, payload_at, Shaped}
use Rattle.rcv_ring.specs.Moves.{ring, moved_by, dropped_by}
use Rattle.rcv_ring.specs.Views.{Content, Held, held, content_at, span, kept, queue_of, mark_past, content_past, held_of, held_at, is_there, closer, ready_of}
use Rattle.rcv_ring.proofs.Spans.{span_same, span_add, span-drop, span-length, map-span, kept_add, kept_all, kept_same, kept-closer, held_is, held_out, leading-held, leading_le}

-- ---- `is_held`: the mark says whether a distance is held

pub held_law : (r : RcvRing) (l : Lists) (d : ℕ) → is_there d (held_of r l) ≡ held_at r l.records d
unfolding held_at held_of
held_law r l d =
    by_less d r.reach
    (λ y. rw (lt-ltb d r.reach y) (held_is (mark_past r l.records) (content_past r l) d 0 r.reach (omega arith) (omega arith)))
    (λ n. rw (le-ltb d r.reach n) (held_out (mark_past r l.records) (content_past r l) d 0 r.reach (λ a b. omega arith)))

-- one that is not held has no mark
pub free-mark : (r : RcvRing) (records : List ℕ) (d : ℕ) → held_at r records d ≡ false → d < r.reach → mark_past r records d ≡ 0
unfolding held_at
free-mark r records d e h = let f = rw (lt-ltb d r.reach h) at e in eqb-true _ _ (not-false _ f)

-- ---- `ready`: the distances before its answer are held

module _ (r : RcvRing) (records : List ℕ) (left : ℕ) where
  pub ready_held : (i : ℕ) → i < ready_of r records left → mark_past r records i ≡ 0 → ⊥
  unfolding ready_of
  ready_held i h =
      let z : 0 + i ≡ i = omega arith in
      rw z at (leading-held (mark_past r records) 0 (min r.reach left) i h).1

  pub ready_le : (ready_of r records left ≤ r.reach) × (ready_of r records left ≤ left)
  unfolding ready_of
  ready_le = let h = leading_le (mark_past r records) 0 (min r.reach left) in (omega arith, omega arith)

-- ---- `moved`: k distances, all held

module _ (r : RcvRing) (l : Lists) (k : ℕ) (h : k ≤ r.reach) (all : (i : ℕ) → i < k → mark_past r l.records i ≡ 0 → ⊥) where
  split : held_of r l ≡ span (λ (j : ℕ). held j (content_past r l j)) 0 k ++ kept (mark_past r l.records) (content_past r l) k (r.reach - k)
  unfolding held_of
  split =
      let m = mark_past r l.records in
      let e : r.reach ≡ k + (r.reach - k) = omega arith in
      let z : 0 + k ≡ k = omega arith in
      let f = kept_all m (content_past r l) 0 k (λ i a y. let q : 0 + i ≡ i = omega arith in all i a (rw q at y)) in
      ap (kept m (content_past r l) 0) e ∙ kept_add m (content_past r l) 0 k (r.reach - k) ∙ rw (f, z)

  -- the first k
  pub firsts : take k (held_of r l) ≡ span (λ (j : ℕ). held j (content_past r l j)) 0 k
  firsts = rw split (take_at _ _ k (span-length (λ (j : ℕ). held j (content_past r l j)) 0 k))

  -- the rest
  pub rest : drop k (held_of r l) ≡ kept (mark_past r l.records) (content_past r l) k (r.reach - k)
  rest = rw split (drop_at (span (λ (j : ℕ). held j (content_past r l j)) 0 k) _ k (span-length (λ (j : ℕ). held j (content_past r l j)) 0 k))

  pub moved-queue : queue_of (moved_by k r) l ≡ queue_of r l ++ map (λ (x : Held). x.content) (take k (held_of r l))
  unfolding queue_of payload_at
  moved-queue =
      rw (firsts, map-span)
      (span_add (content_at r l) 0 r.queued k
      ∙ ap (λ (x : List Content). span (content_at r l) 0 r.queued ++ x)
      (span_same (content_at r l) (content_past r l) (0 + r.queued) 0 k (λ i a. let q : 0 + r.queued + i ≡ r.queued + (0 + i) = omega arith in ap (content_at r l) q)))

  pub moved-held : held_of (moved_by k r) l ≡ closer k (drop k (held_of r l))
  unfolding held_of payload_at
  moved-held =
      let z : k + 0 ≡ k = omega arith in
      let e =
      kept-closer (mark_past r l.records) (mark_past (moved_by k r) l.records) (content_past r l) (content_past (moved_by k r) l) k 0 (r.reach - k)
      (λ i a b. let q : r.queued + (k + i) ≡ r.queued + k + i = omega arith in (ap (mark_at r l.records) q, ap (content_at r l) q)) in
      sym (ap (closer k) rest ∙ rw z at e)

-- ---- `dropped`

module _ (r : RcvRing) (l : Lists) (w : Shaped r l) (k : ℕ) (h : k ≤ r.queued) where
  abbrev R : ℕ
  R = length l.records

  abbrev next : RcvRing
  next = ring (place R r.start k) (r.queued - k) r.reach

  pub mark_on : (i : ℕ) → k + i ≤ R → mark_at next l.records i ≡ mark_at r l.records (k + i)
  mark_on i a = rw (place-place R r.start k i w.started a)

  pub content_on : (i : ℕ) → k + i ≤ R → content_at next l i ≡ content_at r l (k + i)
  unfolding payload_at
  content_on i a = rw (place-place R r.start k i w.started a)

  pub next-queue : queue_of next l ≡ drop k (queue_of r l)
  unfolding queue_of
  next-queue =
      span_same (content_at next l) (content_at r l) 0 (0 + k) (r.queued - k)
      (λ i a. let b = w.within in let q : k + (0 + i) ≡ 0 + k + i = omega arith in content_on (0 + i) (omega arith) ∙ ap (content_at r l) q)
      ∙ sym (span-drop (content_at r l) 0 r.queued k h)

  pub next-held : held_of next l ≡ held_of r l
  unfolding held_of
  next-held =
      kept_same (mark_past next l.records) (mark_past r l.records) (content_past next l) (content_past r l) 0 r.reach
      (λ i a b.
      let o = w.within in
      let q : k + (r.queued - k + i) ≡ r.queued + i = omega arith in
      (mark_on (r.queued - k + i) (omega arith) ∙ ap (mark_at r l.records) q, λ z. content_on (r.queued - k + i) (omega arith) ∙ ap (content_at r l) q))

  -- the empty ring
  none-queue : r.queued - k + r.reach ≡ 0 → queue_of (ring 0 0 0) l ≡ drop k (queue_of r l)
  unfolding queue_of span
  none-queue n = let e : r.queued - k ≡ 0 = omega arith in sym (span-drop (content_at r l) 0 r.queued k h ∙ rw e)

  none-held : r.queued - k + r.reach ≡ 0 → held_of (ring 0 0 0) l ≡ held_of r l
  unfolding held_of kept
  none-held n = let e : r.reach ≡ 0 = omega arith in rw e

  -- one or the other
  pub by-dropped : {A : Type 0} → (r.queued - k + r.reach ≡ 0 → dropped_by R k r ≡ ring 0 0 0 → A) → (dropped_by R k r ≡ next → A) → A
  unfolding dropped_by
  by-dropped {A} f g = go (ℕ_discrete (r.queued - k + r.reach) 0)
    where
      go : Dec (r.queued - k + r.reach ≡ 0) → A
      go (yes y) = f y (rw (eq-eqb (r.queued - k + r.reach) 0 y))
      go (no n) = g (rw (ne_eqb (r.queued - k + r.reach) 0 n))

  pub dropped-queue : queue_of (dropped_by R k r) l ≡ drop k (queue_of r l)
  dropped-queue = by-dropped (λ n e. rw e (none-queue n)) (λ e. rw e next-queue)

  pub dropped-held : held_of (dropped_by R k r) l ≡ held_of r l
  dropped-held = by-dropped (λ n e. rw e (none-held n)) (λ e. rw e next-held)
