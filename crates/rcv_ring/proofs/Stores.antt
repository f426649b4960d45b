-- `store`: what is held gains one, in its place, and nothing else changes. Assumes nothing.
use Prim.Native.Nat.{ℕ, ◌+◌, ◌-◌, ◌*◌, ◌≤◌, ◌<◌, max}
use native.Mathlib.Omega.{arith}
use mathlib.Core.Path.{◌≡◌, refl, ap, ◌∙◌, sym}
use mathlib.Core.Bool.{false, cond}
use mathlib.Core.List.{List, append-nil}
use lib.ListN.{length, length-set}
use lib.Dec.{ltb}
use borrow.Author.Tests.{lt-ltb, le-ltb}
use Rattle.ring.specs.Lists.{Lists}
use Rattle.ring.specs.Places.{place}
use Rattle.ring.specs.Counting.{word_at}
use Rattle.ring.proofs.Places.{by_less, place_in, place-apart}
use Rattle.ring.proofs.Rows.{row_in, put_slot-length, part_slot-own, part_slot-other}
use Rattle.rcv_ring.specs.declared.RcvRing.{RcvRing}
use Rattle.rcv_ring.specs.Words.{word, mark_of, frg_of}
use Rattle.rcv_ring.specs.Places.{mark_at, frg_at, size_at, payload_at, Sound}
use Rattle.rcv_ring.specs.Moves.{cleared, reached, stored_at}
use Rattle.rcv_ring.specs.Views.{content, content_at, held, kept, queue_of, mark_past, content_past, held_of, held_at, put_by}
use Rattle.rcv_ring.proofs.Words.{word-mark, word-frg, set_own, set_other, cleared-length, cleared-out, cleared_in}
use Rattle.rcv_ring.proofs.Spans.{span_same, kept_add, kept_none, kept_same, kept-put_by}
use Rattle.rcv_ring.proofs.Steps.{free-mark}

module _ (r : RcvRing) (l : Lists) (w : Sound r l) (d frg : ℕ) (x : List ℕ) (h : r.queued + d < length l.records) (low : frg < 65536) (fits : length x ≤ 1476) where
  abbrev after : Lists
  after = stored_at r l d frg x

  abbrev R : ℕ
  R = length l.records

  abbrev there : ℕ
  there = place R r.start (r.queued + d)

  abbrev mid : List ℕ
  mid = cleared r.start (r.queued + r.reach) (d - r.reach) l.records

  mid-length : length mid ≡ R
  mid-length = cleared-length r.start (r.queued + r.reach) (d - r.reach) l.records

  there-room : there * 1476 + 1476 ≤ length l.room
  there-room = let s = w.shaped in row_in 1476 there R l.room s.room-size (place_in R r.start (r.queued + d) s.started (omega arith))

  pub records-length : length after.records ≡ R
  unfolding stored_at
  records-length = simp length-set mid-length

  pub room-length : length after.room ≡ length l.room
  unfolding stored_at
  room-length = put_slot-length 1476 l.room there 0 x (omega arith) there-room

  -- ---- the words

  pub word-own : word_at after.records r.start (r.queued + d) ≡ word frg (length x)
  unfolding stored_at
  word-own =
      let e = mid-length in
      let s = w.shaped.started in
      set_own mid r.start (omega arith) R (sym e) (r.queued + d) (word frg (length x)) (omega arith)

  word-mid : (i : ℕ) → i < R → (i ≡ r.queued + d → ⊥) → word_at after.records r.start i ≡ word_at mid r.start i
  unfolding stored_at
  word-mid i a n =
      let e = mid-length in
      let s = w.shaped.started in
      set_other mid r.start (omega arith) R (sym e) (r.queued + d) i (word frg (length x)) (omega arith) (omega arith) n

  pub word_in : (i : ℕ) → i < r.queued + r.reach → (i ≡ r.queued + d → ⊥) → word_at after.records r.start i ≡ word_at l.records r.start i
  word_in i a n =
      let b = w.shaped.within in
      word-mid i (omega arith) n ∙ cleared-out r.start (r.queued + r.reach) (d - r.reach) l.records i w.shaped.started (omega arith) (omega arith) (λ p q. omega arith)

  pub word_gap : (i : ℕ) → r.queued + r.reach ≤ i → i < r.queued + d → word_at after.records r.start i ≡ 0
  word_gap i a b =
      word-mid i (omega arith) (λ q. omega arith) ∙ cleared_in r.start (r.queued + r.reach) (d - r.reach) l.records i w.shaped.started (omega arith) a (omega arith)

  -- ---- what stands at an index

  pub mark-own : mark_at r after.records (r.queued + d) ≡ length x + 1
  mark-own = ap mark_of word-own ∙ word-mark frg (length x) low

  pub content-own : content_at r after (r.queued + d) ≡ content frg x
  unfolding stored_at payload_at
  content-own =
      let f : frg_at r after.records (r.queued + d) ≡ frg = ap frg_of word-own ∙ word-frg frg (length x) low in
      let m : size_at r after.records (r.queued + d) ≡ length x = let o = mark-own in omega arith in
      let p : payload_at r after (r.queued + d) ≡ x = rw (m, records-length) (part_slot-own 1476 l.room there 0 x (omega arith) there-room) in
      rw (f, p)

  pub content_in : (i : ℕ) → i < r.queued + r.reach → (i ≡ r.queued + d → ⊥) → content_at r after i ≡ content_at r l i
  unfolding stored_at payload_at
  content_in i a n =
      let b = w.shaped.within in
      let o = w.marked.short i a in
      let q = place-apart R r.start i (r.queued + d) w.shaped.started (omega arith) (omega arith) n in
      rw (word_in i a n, records-length)
      (ap (content (frg_at r l.records i))
      (part_slot-other 1476 l.room there 0 x (omega arith) there-room (place R r.start i) 0 (size_at r l.records i) q (omega arith)))

  -- ---- what is seen

  pub store-queue : queue_of (reached r d) after ≡ queue_of r l
  unfolding queue_of payload_at
  store-queue = span_same (content_at r after) (content_at r l) 0 0 r.queued (λ i a. content_in (0 + i) (omega arith) (λ q. omega arith))

  module _ (free : held_at r l.records d ≡ false) where
    abbrev last : ℕ
    last = max r.reach (d + 1)

    -- the marks, with 0 past the reach
    abbrev old : ℕ → ℕ
    old i = cond (ltb i r.reach) (mark_past r l.records i) 0

    old_in : (i : ℕ) → i < r.reach → old i ≡ mark_past r l.records i
    old_in i a = rw (lt-ltb i r.reach a)

    old-out : (i : ℕ) → r.reach ≤ i → old i ≡ 0
    old-out i a = rw (le-ltb i r.reach a)

    longer : held_of r l ≡ kept old (content_past r l) 0 last
    unfolding held_of
    longer =
        let e : last ≡ r.reach + (last - r.reach) = omega arith in
        kept_same (mark_past r l.records) old (content_past r l) (content_past r l) 0 r.reach (λ i a b. (sym (old_in i (omega arith)), λ z. refl))
        ∙ sym (
        ap (kept old (content_past r l) 0) e
        ∙ kept_add old (content_past r l) 0 r.reach (last - r.reach)
        ∙ rw (kept_none old (content_past r l) (0 + r.reach) (last - r.reach) (λ i a. old-out (0 + r.reach + i) (omega arith))) (append-nil (kept old (content_past r l) 0 r.reach))
        )

    pub store-held : held_of (reached r d) after ≡ put_by (held d (content frg x)) (held_of r l)
    unfolding held_of payload_at
    store-held =
        let f : put_by (held d (content_past r after d)) (kept old (content_past r l) 0 last) ≡ kept (mark_past r after.records) (content_past r after) 0 last =
        kept-put_by old (mark_past r after.records) (content_past r l) (content_past r after) d 0 last (omega arith) (omega arith)
        (by_less d r.reach (λ y. old_in d y ∙ free-mark r l.records d free y) (λ y. old-out d y))
        (λ z. let o = mark-own in omega arith)
        (λ i a b n. by_less i r.reach
        (λ y. (old_in i y ∙ ap mark_of (sym (word_in (r.queued + i) (omega arith) (λ q. n (omega arith)))), λ z. sym (content_in (r.queued + i) (omega arith) (λ q. n (omega arith)))))
        (λ y. (old-out i y ∙ sym (ap mark_of (word_gap (r.queued + i) (omega arith) (omega arith))), λ z. absurd (z (old-out i y))))) in
        sym (ap (put_by (held d (content frg x))) longer ∙ rw content-own at f)
