-- The ring's words answer what the rules ask of numbers: whether one is held, where it belongs, how many are ready, and what a move, a drop and a
-- store leave. Assumes nothing.
use Prim.Native.Nat.{ℕ, zero, suc, ◌+◌, ◌-◌, ◌^◌, ◌≤◌, ◌<◌, min}
use native.Mathlib.Omega.{arith}
use native.Mathlib.Decide.{ℕ_discrete, dec_lt}
use mathlib.Core.Path.{◌≡◌, refl, ap, ◌∙◌, sym}
use mathlib.Core.Bool.{false}
use mathlib.Core.List.{List, [], ◌∷◌, ◌++◌, map}
use lib.ListN.{length, take, drop}
use lib.Dec.{eqb}
use borrow.Author.Tests.{lt-ltb, le-ltb, eq-eqb, ne_eqb}
use Rattle.serial.specs.Wrap.{add32, sub32}
use Rattle.serial.specs.Window.{distance}
use Rattle.ring.specs.Lists.{Lists}
use Rattle.ring.specs.Sequences.{inserted}
use Rattle.ring.proofs.Sequences.{map-take, map-drop}
use Rattle.rcv_ring.specs.declared.RcvRing.{RcvRing}
use Rattle.rcv_ring.specs.Places.{payload_at, Shaped, Sound}
use Rattle.rcv_ring.specs.Moves.{ring, reached, stored_at, moved_by, dropped_by}
use Rattle.rcv_ring.specs.Views.{Content, content, content_at, Held, held, kept, mark_past, content_past, held_of, held_at, is_there, put_by, closer, leading, ready_of}
use Rattle.rcv_ring.proofs.Spans.{span_same, span_none, span_add, span-drop, map-span, skip, keep, empty}
use Rattle.rcv_ring.proofs.Steps.{held_law, firsts, rest, moved-held, content_on, by-dropped, dropped-held}
use Rattle.rcv_ring.proofs.Stores.{content_in, store-held}
use Rattle.receiving.specs.Rules.{Segment, numbers, ready, is_held, nearer, insert, Ordered}
use Rattle.receive.specs.Memory.{with_number, held_by, queued_at, queue_by}

-- ---- sums modulo 2^32

add_add : (a k i : ℕ) → add32 (add32 a k) i ≡ add32 a (k + i)
add_add a k i = omega arith

front-moved : (next q k : ℕ) → q + k ≤ 2 ^ 32 → sub32 (add32 next k) (q + k) ≡ sub32 next q
front-moved next q k h = omega arith

front-last : (next q : ℕ) → next < 2 ^ 32 → q ≤ 2 ^ 32 → add32 (sub32 next q) q ≡ next
front-last next q a h = omega arith

front-dropped : (next q k : ℕ) → k ≤ q → q ≤ 2 ^ 32 → sub32 next (q - k) ≡ add32 (sub32 next q) k
front-dropped next q k h a = omega arith

numbered : {a b c d : ℕ} {x y : List ℕ} → a ≡ b → c ≡ d → x ≡ y → ◌≡◌ {A = Segment} (record { sn = a; frg = c; payload = x }) (record { sn = b; frg = d; payload = y })
numbered p q e = rw (p, q, e)

-- ---- a number and its distance

module _ (next : ℕ) (low : next < 2 ^ 32) where
  pub distance_add : (d : ℕ) → d < 2 ^ 32 → distance next (add32 next d) ≡ d
  unfolding distance
  distance_add d h = omega arith

  pub add-distance : (sn : ℕ) → sn < 2 ^ 32 → add32 next (distance next sn) ≡ sn
  unfolding distance
  add-distance sn h = omega arith

  same_number : (d sn : ℕ) → d < 2 ^ 32 → sn < 2 ^ 32 → eqb (add32 next d) sn ≡ eqb d (distance next sn)
  same_number d sn h k = go (ℕ_discrete d (distance next sn))
    where
      go : Dec (d ≡ distance next sn) → eqb (add32 next d) sn ≡ eqb d (distance next sn)
      go (yes e) = eq-eqb _ _ (ap (add32 next) e ∙ add-distance sn k) ∙ sym (eq-eqb _ _ e)
      go (no n) = ne_eqb _ _ (λ q. n (sym (distance_add d h) ∙ ap (distance next) q)) ∙ sym (ne_eqb _ _ n)

  -- every distance of the list is below 2^32
  abbrev Short : List Held → Type 0
  Short [] = Unit {0}
  Short (x ∷ l) = (x.distance < 2 ^ 32) × Short l

  kept-short : (m : ℕ → ℕ) (s : ℕ → Content) (d n : ℕ) → d + n ≤ 2 ^ 32 → Short (kept m s d n)
  kept-short m s d zero h = rw (empty m s d) tt
  kept-short m s d (suc n) h = go (kept-short m s (suc d) n (omega arith)) (ℕ_discrete (m d) 0)
    where
      go : Short (kept m s (suc d) n) → Dec (m d ≡ 0) → Short (kept m s d (suc n))
      go r (yes z) = rw (skip m s d n z) r
      go r (no z) = rw (keep m s d n z) (omega arith, r)

  -- ---- whether a number is held

  known_is : (sn : ℕ) → sn < 2 ^ 32 → (l : List Held) → Short l → is_held sn (numbers (map (with_number next) l)) ≡ is_there (distance next sn) l
  unfolding is_held is_there
  known_is sn k [] h = refl
  known_is sn k (x ∷ l) h = rw (same_number x.distance sn h.0 k, known_is sn k l h.1)

  -- ---- where it belongs

  placed_is : (s : Segment) → s.sn < 2 ^ 32 → (l : List Held) → Short l
      → insert next s (map (with_number next) l) ≡ map (with_number next) (put_by (held (distance next s.sn) (content s.frg s.payload)) l)
  unfolding insert nearer inserted put_by
  placed_is s k [] h = rw (add-distance s.sn k)
  placed_is s k (x ∷ l) h = go (placed_is s k l h.1) (dec_lt (distance next s.sn) x.distance)
    where
      go : insert next s (map (with_number next) l) ≡ map (with_number next) (put_by (held (distance next s.sn) (content s.frg s.payload)) l)
          → Dec (distance next s.sn < x.distance)
          → insert next s (map (with_number next) (x ∷ l)) ≡ map (with_number next) (put_by (held (distance next s.sn) (content s.frg s.payload)) (x ∷ l))
      go r (yes y) = rw (distance_add x.distance h.0, lt-ltb (distance next s.sn) x.distance y, add-distance s.sn k)
      go r (no n) = rw (distance_add x.distance h.0, le-ltb (distance next s.sn) x.distance (omega arith)) (ap (λ z. with_number next x ∷ z) r)

  module _ (m : ℕ → ℕ) (s : ℕ → Content) where
    -- ---- how many are ready

    none-ready : (e room d n : ℕ) → e < d → d + n ≤ 2 ^ 32 → ready (add32 next e) room (numbers (map (with_number next) (kept m s d n))) ≡ 0
    unfolding ready
    none-ready e zero d n h k = refl
    none-ready e (suc room) d zero h k = rw (empty m s d)
    none-ready e (suc room) d (suc n) h k = go (none-ready e (suc room) (suc d) n (omega arith) (omega arith)) (ℕ_discrete (m d) 0)
      where
        go : ready (add32 next e) (suc room) (numbers (map (with_number next) (kept m s (suc d) n))) ≡ 0 → Dec (m d ≡ 0)
            → ready (add32 next e) (suc room) (numbers (map (with_number next) (kept m s d (suc n)))) ≡ 0
        go r (yes z) = rw (skip m s d n z) r
        go r (no z) =
            rw (keep m s d n z, ne_eqb (add32 next d) (add32 next e) (λ q. let a = distance_add d (omega arith) in let b = distance_add e (omega arith) in let c = ap (distance next) q in omega arith))

    ready_is : (room d n : ℕ) → d + n ≤ 2 ^ 32 → ready (add32 next d) room (numbers (map (with_number next) (kept m s d n))) ≡ leading m d (min n room)
    unfolding ready leading
    ready_is zero d n h = let e : min n 0 ≡ 0 = omega arith in rw e
    ready_is (suc room) d zero h = let e : min 0 (suc room) ≡ 0 = omega arith in rw (e, empty m s d)
    ready_is (suc room) d (suc n) h = let e : min (suc n) (suc room) ≡ suc (min n room) = omega arith in rw e (go (ready_is room (suc d) n (omega arith)) (ℕ_discrete (m d) 0))
      where
        go : ready (add32 next (suc d)) room (numbers (map (with_number next) (kept m s (suc d) n))) ≡ leading m (suc d) (min n room) → Dec (m d ≡ 0)
            → ready (add32 next d) (suc room) (numbers (map (with_number next) (kept m s d (suc n)))) ≡ leading m d (suc (min n room))
        go r (yes z) = rw (skip m s d n z, eq-eqb (m d) 0 z) (none-ready d (suc room) (suc d) n (omega arith) (omega arith))
        go r (no z) =
            let q : add32 (add32 next d) 1 ≡ add32 next (suc d) = omega arith in
            rw (keep m s d n z, ne_eqb (m d) 0 z, eq-eqb (add32 next d) (add32 next d) refl, q, r)

    -- ---- the numbers rise

    kept-ordered : (lo hi d n : ℕ) → hi ≤ 2 ^ 32 → lo ≤ d → d + n ≤ hi → Ordered next lo hi (numbers (map (with_number next) (kept m s d n)))
    kept-ordered lo hi d zero t h k = rw (empty m s d) (omega arith)
    kept-ordered lo hi d (suc n) t h k = go (λ lo h. kept-ordered lo hi (suc d) n t h (omega arith)) (ℕ_discrete (m d) 0)
      where
        go : ((lo : ℕ) → lo ≤ suc d → Ordered next lo hi (numbers (map (with_number next) (kept m s (suc d) n)))) → Dec (m d ≡ 0)
            → Ordered next lo hi (numbers (map (with_number next) (kept m s d (suc n))))
        go r (yes z) = rw (skip m s d n z) (r lo (omega arith))
        go r (no z) = rw (keep m s d n z, distance_add d (omega arith)) (h, omega arith, r (suc d) (omega arith))

    -- ---- what has moved on keeps its number

    renumber : (k d n : ℕ) → k ≤ d → map (with_number (add32 next k)) (closer k (kept m s d n)) ≡ map (with_number next) (kept m s d n)
    renumber k d zero h = rw (empty m s d)
    renumber k d (suc n) h = go (renumber k (suc d) n (omega arith)) (ℕ_discrete (m d) 0)
      where
        go : map (with_number (add32 next k)) (closer k (kept m s (suc d) n)) ≡ map (with_number next) (kept m s (suc d) n) → Dec (m d ≡ 0)
            → map (with_number (add32 next k)) (closer k (kept m s d (suc n))) ≡ map (with_number next) (kept m s d (suc n))
        go r (yes z) = rw (skip m s d n z) r
        go r (no z) = let q : add32 (add32 next k) (d - k) ≡ add32 next d = omega arith in rw (keep m s d n z, r, q)

  -- ---- k distances move, all held

  module _ (r : RcvRing) (l : Lists) (k : ℕ) (h : k ≤ r.reach) (all : (i : ℕ) → i < k → mark_past r l.records i ≡ 0 → ⊥) where
    pub moved_law : held_by (add32 next k) (moved_by k r) l ≡ drop k (held_by next r l)
    unfolding held_by
    moved_law =
        ap (map (with_number (add32 next k))) (moved-held r l k h all ∙ ap (closer k) (rest r l k h all))
        ∙ renumber (mark_past r l.records) (content_past r l) k k (r.reach - k) (omega arith)
        ∙ ap (map (with_number next)) (sym (rest r l k h all))
        ∙ map-drop (with_number next) k (held_of r l)

    pub moved_queue_law : r.queued + k ≤ 2 ^ 32 → queue_by (add32 next k) (moved_by k r) l ≡ queue_by next r l ++ take k (held_by next r l)
    unfolding queue_by held_by payload_at
    moved_queue_law t =
        span_add (queued_at (add32 next k) (moved_by k r) l) 0 r.queued k
        ∙ rw (
          span_same (queued_at (add32 next k) (moved_by k r) l) (queued_at next r l) 0 0 r.queued (λ i a. numbered (ap (λ (x : ℕ). add32 x (0 + i)) (front-moved next r.queued k t)) refl refl),
          ← map-take (with_number next) k (held_of r l),
          firsts r l k h all,
          map-span (with_number next) (λ (j : ℕ). held j (content_past r l j)) 0 k,
          span_same (queued_at (add32 next k) (moved_by k r) l) (λ (j : ℕ). with_number next (held j (content_past r l j))) (0 + r.queued) 0 k
              (λ i a.
              let q : 0 + r.queued + i ≡ r.queued + (0 + i) = omega arith in
              let n = rw (front-last next r.queued low (omega arith)) at (sym (add_add (sub32 next r.queued) r.queued (0 + i))) in
              numbered (ap (λ (x : ℕ). add32 x (0 + r.queued + i)) (front-moved next r.queued k t) ∙ ap (add32 (sub32 next r.queued)) q ∙ n) (ap (λ (j : ℕ). (content_at r l j).frg) q) (ap (λ (j : ℕ). (content_at r l j).payload) q)),
        )

  by-held : (x : RcvRing) (y : Lists) (z : List Held) → held_of x y ≡ z → held_by next x y ≡ map (with_number next) z
  unfolding held_by
  by-held x y z e = rw e

  -- ---- the first k of the queue are dropped

  module _ (r : RcvRing) (l : Lists) (w : Shaped r l) (k : ℕ) (h : k ≤ r.queued) where
    pub dropped_held_law : held_by next (dropped_by (length l.records) k r) l ≡ held_by next r l
    dropped_held_law = by-held (dropped_by (length l.records) k r) l _ (dropped-held r l w k h) ∙ sym (by-held r l _ refl)

    pub dropped_queue_law : queue_by next (dropped_by (length l.records) k r) l ≡ drop k (queue_by next r l)
    unfolding queue_by
    dropped_queue_law =
        let a = w.within in
        let o = w.many in
        by-dropped r l w k h
        (λ n e.
        let z : r.queued - k ≡ 0 = omega arith in
        rw (e, span-drop (queued_at next r l) 0 r.queued k h, z, span_none (queued_at next (ring 0 0 0) l) 0, span_none (queued_at next r l) (0 + k)))
        (λ e.
        rw (e, span-drop (queued_at next r l) 0 r.queued k h)
        (span_same _ (queued_at next r l) 0 (0 + k) (r.queued - k)
        (λ i c.
        let q : k + (0 + i) ≡ 0 + k + i = omega arith in
        let f = content_on r l w k h (0 + i) (omega arith) ∙ ap (content_at r l) q in
        let g = ap (λ (x : ℕ). add32 x (0 + i)) (front-dropped next r.queued k h (omega arith)) ∙ add_add (sub32 next r.queued) k (0 + i) ∙ ap (add32 (sub32 next r.queued)) q in
        numbered g (ap (λ (s : Content). s.frg) f) (ap (λ (s : Content). s.payload) f))))

  -- ---- of a ring whose reach is below 2^32, as every sound one's is

  module _ (r : RcvRing) (l : Lists) (within : r.reach ≤ 2 ^ 32) where
    short : Short (held_of r l)
    unfolding held_of
    short = kept-short (mark_past r l.records) (content_past r l) 0 r.reach (omega arith)

    pub known_law : (sn : ℕ) → sn < 2 ^ 32 → is_held sn (numbers (held_by next r l)) ≡ held_at r l.records (distance next sn)
    unfolding held_by
    known_law sn k = known_is sn k (held_of r l) short ∙ held_law r l (distance next sn)

    pub placed_law : (s : Segment) → s.sn < 2 ^ 32
        → insert next s (held_by next r l) ≡ map (with_number next) (put_by (held (distance next s.sn) (content s.frg s.payload)) (held_of r l))
    unfolding held_by
    placed_law s k = placed_is s k (held_of r l) short

    pub ready_law : (left : ℕ) → ready next left (numbers (held_by next r l)) ≡ ready_of r l.records left
    unfolding held_by held_of ready_of
    ready_law left =
        let z : add32 next 0 ≡ next = omega arith in
        rw z at (ready_is (mark_past r l.records) (content_past r l) left 0 r.reach (omega arith))

    -- "held numbers rising", within any window that the reach is
    pub ordered_law : (hi : ℕ) → hi ≤ 2 ^ 32 → r.reach ≤ hi → Ordered next 0 hi (numbers (held_by next r l))
    unfolding held_by held_of
    ordered_law hi t h = kept-ordered (mark_past r l.records) (content_past r l) 0 hi 0 r.reach t (omega arith) (omega arith)

  -- ---- a segment is stored at its distance

  module _ (r : RcvRing) (l : Lists) (w : Sound r l) where
    pub store_queue_law : (d frg : ℕ) (x : List ℕ) → r.queued + d < length l.records → frg < 65536 → length x ≤ 1476 → queue_by next (reached r d) (stored_at r l d frg x) ≡ queue_by next r l
    unfolding queue_by payload_at
    store_queue_law d frg x h f fits =
        span_same (queued_at next (reached r d) (stored_at r l d frg x)) (queued_at next r l) 0 0 r.queued
        (λ i c.
        let e = content_in r l w d frg x h f fits (0 + i) (omega arith) (λ q. omega arith) in
        numbered refl (ap (λ (s : Content). s.frg) e) (ap (λ (s : Content). s.payload) e))

    pub store_held_law : (s : Segment) → s.sn < 2 ^ 32 → r.queued + distance next s.sn < length l.records → s.frg < 65536 → length s.payload ≤ 1476
        → held_at r l.records (distance next s.sn) ≡ false
        → held_by next (reached r (distance next s.sn)) (stored_at r l (distance next s.sn) s.frg s.payload) ≡ insert next s (held_by next r l)
    store_held_law s k h f fits free =
        let a = w.shaped.within in
        let o = w.shaped.many in
        by-held (reached r (distance next s.sn)) (stored_at r l (distance next s.sn) s.frg s.payload) _ (store-held r l w (distance next s.sn) s.frg s.payload h f fits free)
        ∙ sym (placed_law r l (omega arith) s k)
