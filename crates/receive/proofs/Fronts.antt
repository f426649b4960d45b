-- The message at the front of the queue, as `message_of` counts it, and what peeksize answers and recv leaves by it. Assumes nothing.
use Rattle.std.specs.Prelude.{Ok, Err}
use Prim.Native.Nat.{ℕ, zero, suc, ◌+◌, ◌-◌, ◌≤◌, ◌<◌}
use native.Mathlib.Omega.{arith}
use native.Mathlib.Numerals.{add-one}
use mathlib.Core.Path.{◌≡◌, refl, sym, ◌∙◌}
use mathlib.Core.Bool.{Bool, true, false, cond}
use mathlib.Core.List.{List}
use lib.ListN.{length, take}
use borrow.Author.Tests.{lt-ltb, le-ltb, eq-eqb, ne_eqb}
use Rattle.ring.specs.Lists.{Lists}
use Rattle.ring.specs.Places.{summed, along}
use Rattle.ring.specs.Records.{put}
use Rattle.rcv_ring.specs.declared.RcvRing.{RcvRing}
use Rattle.rcv_ring.specs.Places.{frg_at, size_at, payload_at, Sound}
use Rattle.rcv_ring.specs.Moves.{dropped_by}
use Rattle.rcv_ring.specs.Views.{span}
use Rattle.rcv_ring.proofs.Spans.{span-length, span-take, summed-span}
use Rattle.rcv_ring.proofs.Keeps.{dropped-sound}
use Rattle.block.specs.declared.receiver.Receiver.{Receiver}
use Rattle.block.specs.declared.refusal.Refusal.TheVariants.{RecvQueueEmpty, ExpectingFragment, UserBufTooSmall}
use Rattle.block.specs.Parts.{with_rcv_ring}
use Rattle.receiving.specs.Rules.{empty, expecting, gives, message, sum, expects, peeked, unless_longer}
use Rattle.receive.specs.declared.Message.{Message}
use Rattle.receive.specs.Memory.{queue_frgs, queue_sizes, Spans, move_buf_at, peek_at, answer_at, message_at, freed_at, handed_at, bytes_at, recv_by, recv_at}
use Rattle.receive.specs.Fits.{Lies}
use Rattle.receive.proofs.Seen.{message_in}
use Rattle.receive.proofs.Exact.{sound-lies}

-- ---- `message_of`: i segments passed, none of them the last

module _ (f : ℕ → ℕ) (i n : ℕ) where
  pub message_on : i < n → (f i ≡ 0 → ⊥) → message (span f i (n - i)) ≡ suc (message (span f (i + 1) (n - (i + 1))))
  unfolding message span
  message_on h z = let e : n - i ≡ suc (n - (i + 1)) = omega arith in rw (e, add-one, ne_eqb (f i) 0 z)

  pub message-ends : i < n → f i ≡ 0 → message (span f i (n - i)) ≡ 1
  unfolding message span
  message-ends h z = let e : n - i ≡ suc (n - (i + 1)) = omega arith in rw (e, eq-eqb (f i) 0 z)

  pub message_none : n ≤ i → message (span f i (n - i)) ≡ 0
  unfolding message span
  message_none h = let e : n - i ≡ 0 = omega arith in rw e

module _ (r : RcvRing) (records : List ℕ) where
  sizes-summed : (k : ℕ) → k ≤ r.queued → sum (take k (queue_sizes r records)) ≡ summed (size_at r records) 0 k
  unfolding sum
  sizes-summed k h = rw (span-take (size_at r records) 0 r.queued k h) (sym (summed-span sum refl (λ x l. refl) (size_at r records) 0 k))

  pub spans_of : (k : ℕ) → k ≡ message (queue_frgs r records) → (size : ℕ) → size ≡ summed (size_at r records) 0 k
      → Spans (queue_frgs r records) (queue_sizes r records) (record { segments = k; size = size })
  spans_of k e size s = record { segments_is = e; size_is = s ∙ rw e (sym (sizes-summed (message (queue_frgs r records)) (message_in r records))) }

  module _ (m : Message) (s : Spans (queue_frgs r records) (queue_sizes r records) m) where
    pub segments_in : m.segments ≤ r.queued
    segments_in = rw s.segments_is (message_in r records)

    pub size-summed : m.size ≡ summed (size_at r records) 0 m.segments
    size-summed = s.size_is ∙ rw s.segments_is (sizes-summed (message (queue_frgs r records)) (message_in r records))

-- ---- peeksize

peeked-front : (f : ℕ → ℕ) (sizes : List ℕ) (n : ℕ) → (n ≡ 0 → ⊥) → peeked (span f 0 n) sizes ≡ cond (expects (f 0) n) expecting (gives (sum (take (message (span f 0 n)) sizes)))
unfolding peeked span
peeked-front f sizes zero h = absurd (h refl)
peeked-front f sizes (suc n) h = rw (span-length f 1 n)

module _ (r : Receiver) (records : List ℕ) where
  pub peek-empty : r.ring.queued ≡ 0 → peek_at r records ≡ empty
  unfolding peek_at peeked span
  peek-empty e = rw e

  module _ (some : r.ring.queued ≡ 0 → ⊥) (frg : ℕ) (is : frg ≡ frg_at r.ring records 0) {b : Bool} (h : expects frg r.ring.queued ≡ b) where
    front-peek : peek_at r records ≡ cond b expecting (gives (sum (take (message (queue_frgs r.ring records)) (queue_sizes r.ring records))))
    unfolding peek_at
    front-peek = peeked-front (frg_at r.ring records) (queue_sizes r.ring records) r.ring.queued some ∙ rw (← is, h)

    pub peek-expects : b ≡ true → peek_at r records ≡ expecting
    peek-expects t = front-peek ∙ rw t

    pub peek_whole : b ≡ false → (m : Message) → Spans (queue_frgs r.ring records) (queue_sizes r.ring records) m → peek_at r records ≡ gives m.size
    peek_whole t m s = front-peek ∙ rw (t, s.size_is)

-- ---- `hand_out`: what `move_buf` asks and leaves of the ring without its first k

module _ (r : Receiver) (l : Lists) (k : ℕ) (g : RcvRing) (w : Receiver) (x : g ≡ dropped_by (length l.records) k r.ring) (y : w ≡ with_rcv_ring r r.rcv_nxt g) where
  pub left-lies : Sound r.ring l → k ≤ r.ring.queued → Lies w l.records
  left-lies s h = rw (y, x) (sound-lies (dropped-sound r.ring l s k h))

  pub left_is : (r' : Receiver) → r' ≡ move_buf_at w l.records → r' ≡ move_buf_at (freed_at (length l.records) k r) l.records
  unfolding freed_at
  left_is r' e = e ∙ rw (y, x)

-- ---- recv

module _ (r : Receiver) (l : Lists) (buf : List ℕ) where
  pub recv-empty : peek_at r l.records ≡ empty → record { receiver = r; answer = Err RecvQueueEmpty; buf = buf } ≡ recv_at r l buf
  unfolding recv_at recv_by answer_at unless_longer
  recv-empty e = rw e

  pub recv-expects : peek_at r l.records ≡ expecting → record { receiver = r; answer = Err ExpectingFragment; buf = buf } ≡ recv_at r l buf
  unfolding recv_at recv_by answer_at unless_longer
  recv-expects e = rw e

  module _ (n : ℕ) (e : peek_at r l.records ≡ gives n) where
    pub recv-longer : length buf < n → record { receiver = r; answer = Err UserBufTooSmall; buf = buf } ≡ recv_at r l buf
    unfolding recv_at recv_by answer_at unless_longer
    recv-longer h = rw (e, lt-ltb (length buf) n h)

    -- the message's k segments are handed out
    pub recv_whole : n ≤ length buf → (k : ℕ) → k ≡ message (queue_frgs r.ring l.records) → (r' : Receiver) → r' ≡ move_buf_at (freed_at (length l.records) k r) l.records
        → (buf' : List ℕ) → buf' ≡ put buf 0 (along (payload_at r.ring l) 0 k) → record { receiver = r'; answer = Ok n; buf = buf' } ≡ recv_at r l buf
    unfolding recv_at recv_by answer_at unless_longer handed_at bytes_at message_at
    recv_whole h k q r' f buf' g = rw (e, le-ltb (length buf) n h, f, g, q)
