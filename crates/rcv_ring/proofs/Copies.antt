-- What is read of the queue, and how its payloads come to stand end to end. Assumes nothing.
use Prim.Native.Nat.{ℕ, ◌+◌, ◌*◌, ◌≤◌, ◌<◌}
use native.Mathlib.Omega.{arith}
use native.Mathlib.Nat.{zero-add}
use mathlib.Core.Path.{◌≡◌, refl, sym, ap, ◌∙◌}
use mathlib.Core.List.{List, [], ◌∷◌, ◌++◌, map}
use lib.ListN.{length, take, length-append}
use Rattle.ring.specs.Lists.{Lists}
use Rattle.ring.specs.Records.{put}
use Rattle.ring.specs.Places.{place, summed, along}
use Rattle.ring.proofs.Places.{place_in, summed-last, summed-within, along-last, along-size}
use Rattle.ring.proofs.Rows.{row_in, part_length, put-length, put-put}
use Rattle.rcv_ring.specs.declared.RcvRing.{RcvRing}
use Rattle.rcv_ring.specs.Places.{frg_at, size_at, payload_at, Sound}
use Rattle.rcv_ring.specs.Views.{Content, content_at, span, queue_of}
use Rattle.rcv_ring.proofs.Spans.{map-span, span_same, span-take, along-span, summed-span}

-- ---- `copy_out`: the first i payloads stand end to end

pub record Copied (f : ℕ → List ℕ) (before after : List ℕ) (to i : ℕ) : Type 0 where
  pub size : to ≡ length (along f 0 i)
  pub same : length after ≡ length before
  pub bytes : after ≡ put before 0 (along f 0 i)

pub copied_none : (f : ℕ → List ℕ) (l : List ℕ) → Copied f l l 0 0
unfolding put along
copied_none f l = record { size = refl; same = refl; bytes = refl }

-- x, of n bytes, is the next
pub copied_next : (f : ℕ → List ℕ) (before after last x : List ℕ) (to n i : ℕ) → Copied f before after to i → x ≡ f i → n ≡ length (f i) → to + n ≤ length before → last ≡ put after to x
    → Copied f before last (to + n) (i + 1)
copied_next f before after last x to n i c p q room e =
    let a = c.size in
    let b = c.same in
    let d = e ∙ ap (put after to) p in
    let m : along f 0 (i + 1) ≡ along f 0 i ++ f i = rw zero-add at (along-last f 0 i) in
    let z : to ≡ 0 + length (along f 0 i) = omega arith in
    record {
      size = rw (m, length-append) (omega arith);
      same = rw d (put-length after to (f i) (omega arith) ∙ c.same);
      bytes = d ∙ rw (c.bytes, z, m) (put-put before 0 (along f 0 i) (f i) (omega arith));
    }

-- ---- what is read is what the queue holds

module _ (r : RcvRing) (l : Lists) where
  pub queue-firsts : (k : ℕ) → k ≤ r.queued → take k (queue_of r l) ≡ span (content_at r l) 0 k
  unfolding queue_of
  queue-firsts k h = span-take (content_at r l) 0 r.queued k h

  pub queue-frgs : map (λ (c : Content). c.frg) (queue_of r l) ≡ span (frg_at r l.records) 0 r.queued
  unfolding queue_of
  queue-frgs = map-span (λ (c : Content). c.frg) (content_at r l) 0 r.queued

  -- by any join of lists
  pub queue-along : (j : List (List ℕ) → List ℕ) → j [] ≡ [] → ((x : List ℕ) (m : List (List ℕ)) → j (x ∷ m) ≡ x ++ j m) → (k : ℕ) → k ≤ r.queued
      → along (payload_at r l) 0 k ≡ j (map (λ (c : Content). c.payload) (take k (queue_of r l)))
  queue-along j e f k h = rw (queue-firsts k h, map-span) (along-span j e f (payload_at r l) 0 k)

  module _ (w : Sound r l) where
    pub slot_in : (i : ℕ) → i < r.queued + r.reach → place (length l.records) r.start i * 1476 + 1476 ≤ length l.room
    slot_in i h =
        let s = w.shaped in
        let b = s.within in
        row_in 1476 (place (length l.records) r.start i) (length l.records) l.room s.room-size (place_in (length l.records) r.start i s.started (omega arith))

    -- the payload at an index has as many bytes as its mark says
    pub payload-size : (i : ℕ) → i < r.queued + r.reach → length (payload_at r l i) ≡ size_at r l.records i
    unfolding payload_at
    payload-size i h =
        let m = w.marked.short i h in
        let p = slot_in i h in
        part_length l.room (place (length l.records) r.start i * 1476 + 0) (size_at r l.records i) (omega arith)

    pub queue-length : (k : ℕ) → k ≤ r.queued → length (along (payload_at r l) 0 k) ≡ summed (size_at r l.records) 0 k
    queue-length k h = along-size (payload_at r l) (size_at r l.records) 0 k (λ i a b. payload-size i (omega arith))

    -- by any sum
    pub queue-summed : (j : List ℕ → ℕ) → j [] ≡ 0 → ((x : ℕ) (m : List ℕ) → j (x ∷ m) ≡ x + j m) → (k : ℕ) → k ≤ r.queued
        → summed (size_at r l.records) 0 k ≡ j (map (λ (c : Content). length c.payload) (take k (queue_of r l)))
    queue-summed j e f k h =
        summed-span j e f (size_at r l.records) 0 k
        ∙ rw (queue-firsts k h, map-span)
        (ap j (span_same (size_at r l.records) (λ (i : ℕ). length (payload_at r l i)) 0 0 k (λ i a. sym (payload-size (0 + i) (omega arith)))))

    -- one more of the first k fits where they all do
    pub next_fits : (k : ℕ) → k ≤ r.queued → (i to : ℕ) → i < k → to ≡ length (along (payload_at r l) 0 i) → to + size_at r l.records i ≤ summed (size_at r l.records) 0 k
    next_fits k h i to a e =
        let f = size_at r l.records in
        let n = queue-length i (omega arith) in
        let m : summed f 0 (i + 1) ≡ summed f 0 i + f i = rw zero-add at (summed-last f 0 i) in
        let u = summed-within f 0 (i + 1) k (omega arith) in
        omega arith
