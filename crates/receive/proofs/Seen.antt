-- The law between the memory functions and the rules: what is seen in the memory afterwards is the rule's outcome of what was seen before; and each
-- step leaves the receive side good to act on. Assumes nothing.
use Prim.Native.Nat.{ℕ, zero, suc, ◌+◌, ◌-◌, ◌^◌, ◌≤◌, ◌<◌, zero-le, suc-le-suc}
use native.Mathlib.Omega.{arith}
use native.Mathlib.Decide.{ℕ_discrete}
use mathlib.Core.Path.{◌≡◌, refl, sym, ap, ◌∙◌}
use mathlib.Core.Bool.{Bool, true, false, cond, not}
use mathlib.Core.List.{List, [], ◌∷◌}
use lib.ListN.{length, take, length-map}
use lib.Dec.{eqb}
use borrow.Author.Tests.{ltb-true}
use Rattle.serial.specs.Branch.{pick}
use Rattle.serial.specs.Window.{distance, in_window}
use Rattle.ring.specs.Lists.{Lists}
use Rattle.ring.specs.Places.{summed, along}
use Rattle.ring.specs.Counting.{at_least, word_at, count}
use Rattle.ring.proofs.Counting.{by-least}
use Rattle.rcv_ring.specs.declared.RcvRing.{RcvRing}
use Rattle.rcv_ring.specs.Places.{frg_at, size_at, payload_at, Sound}
use Rattle.rcv_ring.specs.Moves.{stored_at, dropped_by}
use Rattle.rcv_ring.specs.Moves as ring
use Rattle.rcv_ring.specs.Views.{Content, kept, mark_past, content_past, held_of, held_at}
use Rattle.rcv_ring.proofs.Spans.{span_same, span-length, span-take, map-span, along-span, skip, keep, empty}
use Rattle.rcv_ring.proofs.Steps.{ready_held, ready_le, by-dropped}
use Rattle.rcv_ring.proofs.Stores.{records-length, room-length}
use Rattle.rcv_ring.proofs.Keeps.{store-sound, moved-sound, dropped-sound}
use Rattle.rcv_ring.proofs.Copies.{payload-size}
use Rattle.block.specs.declared.receiver.Receiver.{Receiver}
use Rattle.block.specs.Parts.{with_rcv_ring}
use Rattle.receiving.specs.Rules.{Segment, Receiving, numbers, marks, sizes, payloads, ready, moved, move_buf, skipped, is_held, reached, insert, stored, push, message, joined, Answer, gives, peek, recv_answer, freed, received, recv}
use Rattle.receiving.specs.Rules as rules
use Rattle.receiving.proofs.Laws.{and_left}
use Rattle.receive.specs.Memory.{with_number, held_by, queued_at, queue_by, seen, queue_frgs, queue_sizes, Side, side, ready_at, move_buf_at, distance_of, stored_in, moved_at, push_at, peek_at, answer_at, message_at, freed_at, handed_at, recv_by, recv_at}
use Rattle.receive.specs.Fits.{Good}
use Rattle.receive.proofs.Numbers.{known_law, ready_law, moved_law, moved_queue_law, dropped_held_law, dropped_queue_law, store_held_law, store_queue_law}

-- ---- how many are seen

kept-count : (m : ℕ → ℕ) (s : ℕ → Content) (f : ℕ → ℕ) (q : ℕ) → ((d : ℕ) → m d ≡ 0 → f (q + d) ≡ 0) → ((d : ℕ) → (m d ≡ 0 → ⊥) → f (q + d) ≡ 1) → (d n : ℕ)
    → length (kept m s d n) ≡ summed f (q + d) n
unfolding summed
kept-count m s f q a b d zero = rw (empty m s d)
kept-count m s f q a b d (suc n) = let e : suc (q + d) ≡ q + suc d = omega arith in rw e (go (kept-count m s f q a b (suc d) n) (ℕ_discrete (m d) 0))
  where
    go : length (kept m s (suc d) n) ≡ summed f (q + suc d) n → Dec (m d ≡ 0) → length (kept m s d (suc n)) ≡ f (q + d) + summed f (q + suc d) n
    go r (yes z) = rw (skip m s d n z, a d z) (omega arith)
    go r (no z) = rw (keep m s d n z, b d z) (omega arith)

module _ (r : Receiver) (l : Lists) where
  pub seen-queued : length (seen r l).queue ≡ r.ring.queued
  unfolding seen queue_by
  seen-queued = span-length (queued_at r.rcv_nxt r.ring l) 0 r.ring.queued

  pub seen-held : length (seen r l).held ≡ count 65536 l.records r.ring.start r.ring.queued r.ring.reach
  unfolding seen held_by held_of count
  seen-held =
      let f : ℕ → ℕ = λ (i : ℕ). at_least 65536 (word_at l.records r.ring.start i) in
      let z : r.ring.queued + 0 ≡ r.ring.queued = omega arith in
      length-map (held_of r.ring l) (with_number r.rcv_nxt)
      ∙ rw z at (kept-count (mark_past r.ring l.records) (content_past r.ring l) f r.ring.queued
      (λ d e. by-least 65536 (word_at l.records r.ring.start (r.ring.queued + d)) (λ h x. x) (λ h x. absurd (omega arith)))
      (λ d n. by-least 65536 (word_at l.records r.ring.start (r.ring.queued + d)) (λ h x. absurd (n (omega arith))) (λ h x. x)) 0 r.ring.reach)

-- ---- `move_buf`

module _ (r : Receiver) (l : Lists) where
  abbrev few : ℕ
  few = ready_at r l.records

  few_le : (few ≤ r.ring.reach) × (few ≤ r.rcv_wnd - r.ring.queued)
  unfolding ready_at
  few_le = ready_le r.ring l.records (r.rcv_wnd - r.ring.queued)

  few-held : (i : ℕ) → i < few → mark_past r.ring l.records i ≡ 0 → ⊥
  unfolding ready_at
  few-held = ready_held r.ring l.records (r.rcv_wnd - r.ring.queued)

  module _ (w : Sound r.ring l) (low : r.rcv_nxt < 2 ^ 32) where
    small : r.ring.queued + r.ring.reach ≤ 2 ^ 32
    small = let a = w.shaped.within in let o = w.shaped.many in omega arith

    few_is : ready r.rcv_nxt (r.rcv_wnd - length (queue_by r.rcv_nxt r.ring l)) (numbers (held_by r.rcv_nxt r.ring l)) ≡ few
    unfolding seen ready_at
    few_is = let s = small in rw (seen-queued r l) (ready_law r.rcv_nxt low r.ring l (omega arith) (r.rcv_wnd - r.ring.queued))

    -- of any sound ring
    moves_so : seen (move_buf_at r l.records) l ≡ move_buf (seen r l)
    unfolding seen move_buf_at move_buf moved
    moves_so =
        let a = few_le in
        let s = small in
        rw (few_is, moved_queue_law r.rcv_nxt low r.ring l few a.0 few-held (omega arith), moved_law r.rcv_nxt low r.ring l few a.0 few-held)

module _ {r : Receiver} {l : Lists} (good : Good r l) where
  pub seen-move_buf : r.rcv_nxt < 2 ^ 32 → seen (move_buf_at r l.records) l ≡ move_buf (seen r l)
  seen-move_buf low = moves_so r l good.sound low

  pub move-good : Good (move_buf_at r l.records) l
  unfolding move_buf_at
  move-good =
      let a = few_le r l in
      let f = good.fits in
      let w = f.window in
      record {
        sound = moved-sound r.ring l good.sound (few r l) a.0 (few-held r l);
        fits = record { window = w; queue = omega arith; buffer = omega arith; most = f.most; start = f.start };
        twice = good.twice;
      }

pub move-next : (r : Receiver) (records : List ℕ) → (move_buf_at r records).rcv_nxt < 2 ^ 32
unfolding move_buf_at
move-next r records = omega arith

-- ---- a push

-- the receive side with s among the held segments
abbrev with-held : Segment → Receiving → Receiving
with-held s x = record { next = x.next; window = x.window; largest = x.largest; queue = x.queue; held = insert x.next s x.held }

-- a number in the window finds a slot
module _ {r : Receiver} {l : Lists} (good : Good r l) (sn : ℕ) (inside : in_window r.rcv_nxt r.rcv_wnd sn ≡ true) where
  near : distance r.rcv_nxt sn < r.largest
  near = let a = ltb-true (distance r.rcv_nxt sn) r.rcv_wnd inside in let b = good.fits.window.high in omega arith

  pub slot_in : r.ring.queued + distance r.rcv_nxt sn < length l.records
  slot_in = let a = near in let b = good.fits.queue in let t = good.twice in omega arith

module _ {r : Receiver} {l : Lists} (good : Good r l) (s : Segment) (frg : s.frg < 65536) (fit : length s.payload ≤ 1476) where
  abbrev d : ℕ
  d = distance_of r s

  abbrev put : Side
  put = side (with_rcv_ring r r.rcv_nxt (ring.reached r.ring d)) (stored_at r.ring l d s.frg s.payload)

  -- what holds of either side holds of the outcome
  stored_by : (P : Side → Type 0) → P (side r l) → (held_at r.ring l.records d ≡ false → P put) → P (stored_in r l s)
  unfolding stored_in pick
  stored_by P a b = go (held_at r.ring l.records d) refl
    where
      go : (h : Bool) → held_at r.ring l.records d ≡ h → P (pick h (side r l) put)
      go true e = a
      go false e = b e

  module _ (inside : in_window r.rcv_nxt r.rcv_wnd s.sn ≡ true) where
    there : r.ring.queued + d < length l.records
    there = slot_in good s.sn inside

    pub stored-length : (length (stored_in r l s).lent.records ≡ length l.records) × (length (stored_in r l s).lent.room ≡ length l.room)
    stored-length =
        stored_by (λ (x : Side). (length x.lent.records ≡ length l.records) × (length x.lent.room ≡ length l.room)) (refl, refl)
        (λ e. (records-length r.ring l good.sound d s.frg s.payload there frg fit, room-length r.ring l good.sound d s.frg s.payload there frg fit))

    pub stored-good : Good (stored_in r l s).receiver (stored_in r l s).lent
    stored-good =
        let a = near good s.sn inside in
        let f = good.fits in
        let t = good.twice in
        let n = records-length r.ring l good.sound d s.frg s.payload there frg fit in
        stored_by (λ (x : Side). Good x.receiver x.lent) good
        (λ e. record {
          sound = store-sound r.ring l good.sound d s.frg s.payload there frg fit;
          fits = record { window = f.window; queue = f.queue; buffer = let b = f.buffer in omega arith; most = f.most; start = f.start };
          twice = omega arith;
        })

    pub seen_stored : r.rcv_nxt < 2 ^ 32 → s.sn < 2 ^ 32 → seen (stored_in r l s).receiver (stored_in r l s).lent ≡ stored s (seen r l)
    unfolding seen stored_in stored pick
    seen_stored low small = go (held_at r.ring l.records d) refl
      where
        same : is_held s.sn (numbers (held_by r.rcv_nxt r.ring l)) ≡ held_at r.ring l.records d
        same =
            let w = good.sound.shaped.within in
            let o = good.sound.shaped.many in
            known_law r.rcv_nxt low r.ring l (omega arith) s.sn small

        go : (h : Bool) → held_at r.ring l.records d ≡ h
            → seen (pick h (side r l) put).receiver (pick h (side r l) put).lent ≡ cond (is_held s.sn (numbers (held_by r.rcv_nxt r.ring l))) (seen r l) (with-held s (seen r l))
        go true e = rw (same, e)
        go false e =
            rw (
              same,
              e,
              store_queue_law r.rcv_nxt low r.ring l good.sound d s.frg s.payload there frg fit,
              store_held_law r.rcv_nxt low r.ring l good.sound s small there frg fit e,
            )

  module _ (full : Bool) where
    abbrev passes : Bool
    passes = reached full r.rcv_nxt r.rcv_wnd s

    inside_of : passes ≡ true → in_window r.rcv_nxt r.rcv_wnd s.sn ≡ true
    unfolding reached
    inside_of e = and_left (in_window r.rcv_nxt r.rcv_wnd s.sn) (not (skipped full r.rcv_nxt r.rcv_wnd s)) e

    -- what holds of a push that is not reached, and of one that is
    push_by : (P : Side → Type 0) → P (side r l) → (in_window r.rcv_nxt r.rcv_wnd s.sn ≡ true → P (moved_at (stored_in r l s))) → P (push_at full r l s)
    unfolding push_at pick
    push_by P a b = go passes refl
      where
        go : (h : Bool) → passes ≡ h → P (pick h (moved_at (stored_in r l s)) (side r l))
        go true e = b (inside_of e)
        go false e = a

    pub push-length : (length (push_at full r l s).lent.records ≡ length l.records) × (length (push_at full r l s).lent.room ≡ length l.room)
    unfolding moved_at
    push-length = push_by (λ (x : Side). (length x.lent.records ≡ length l.records) × (length x.lent.room ≡ length l.room)) (refl, refl) stored-length

    pub push-good : Good (push_at full r l s).receiver (push_at full r l s).lent
    unfolding moved_at
    push-good = push_by (λ (x : Side). Good x.receiver x.lent) good (λ i. move-good (stored-good i))

    pub push-next : r.rcv_nxt < 2 ^ 32 → (push_at full r l s).receiver.rcv_nxt < 2 ^ 32
    unfolding moved_at
    push-next low = push_by (λ (x : Side). x.receiver.rcv_nxt < 2 ^ 32) low (λ i. move-next (stored_in r l s).receiver (stored_in r l s).lent.records)

    pub seen-push : r.rcv_nxt < 2 ^ 32 → s.sn < 2 ^ 32 → seen (push_at full r l s).receiver (push_at full r l s).lent ≡ push full s (seen r l)
    unfolding push_at moved_at push seen pick
    seen-push low small = go passes refl
      where
        go : (h : Bool) → passes ≡ h
            → seen (pick h (moved_at (stored_in r l s)) (side r l)).receiver (pick h (moved_at (stored_in r l s)) (side r l)).lent ≡ cond h (move_buf (stored s (seen r l))) (seen r l)
        go true e =
            let i = inside_of e in
            seen-move_buf (stored-good i) (stored_by (λ (x : Side). x.receiver.rcv_nxt < 2 ^ 32) low (λ z. low)) ∙ ap move_buf (seen_stored i low small)
        go false e = refl

-- ---- peeksize and recv

message-within : (l : List ℕ) → message l ≤ length l
unfolding message
message-within [] = zero-le
message-within (f ∷ l) = go (eqb f 0) (message-within l)
  where
    go : (b : Bool) → message l ≤ length l → cond b 1 (suc (message l)) ≤ suc (length l)
    go true h = suc-le-suc zero-le
    go false h = suc-le-suc h

pub message_in : (r : RcvRing) (records : List ℕ) → message (queue_frgs r records) ≤ r.queued
message_in r records = let a = message-within (queue_frgs r records) in let b = span-length (frg_at r records) 0 r.queued in omega arith

pub message-queued : (r : Receiver) (records : List ℕ) → message_at r records ≤ r.ring.queued
unfolding message_at
message-queued r records = message_in r.ring records

module _ (r : Receiver) (l : Lists) where
  queue-marks : marks (seen r l).queue ≡ queue_frgs r.ring l.records
  unfolding seen queue_by
  queue-marks = map-span (λ (s : Segment). s.frg) (queued_at r.rcv_nxt r.ring l) 0 r.ring.queued

  pub seen-message : message (marks (seen r l).queue) ≡ message_at r l.records
  unfolding message_at
  seen-message = ap message queue-marks

  -- the bytes handed out are those of the segments handed out
  pub seen_bytes : (k : ℕ) → k ≤ r.ring.queued → along (payload_at r.ring l) 0 k ≡ joined (payloads (take k (seen r l).queue))
  unfolding seen queue_by joined
  seen_bytes k h =
      rw (span-take (queued_at r.rcv_nxt r.ring l) 0 r.ring.queued k h, map-span (λ (s : Segment). s.payload) (queued_at r.rcv_nxt r.ring l) 0 k)
      (along-span joined refl (λ x m. refl) (payload_at r.ring l) 0 k)

module _ {r : Receiver} {l : Lists} (good : Good r l) where
  queue-sizes : sizes (seen r l).queue ≡ queue_sizes r.ring l.records
  unfolding seen queue_by
  queue-sizes =
      map-span (λ (s : Segment). length s.payload) (queued_at r.rcv_nxt r.ring l) 0 r.ring.queued
      ∙ span_same (λ (i : ℕ). length (payload_at r.ring l i)) (size_at r.ring l.records) 0 0 r.ring.queued (λ i a. payload-size r.ring l good.sound (0 + i) (omega arith))

  pub seen-answer : (room : ℕ) → recv_answer room (seen r l) ≡ answer_at room r l.records
  unfolding recv_answer answer_at peek peek_at
  seen-answer room = rw (queue-marks r l, queue-sizes)

  -- the first k of the queue leave it
  module _ (k : ℕ) (h : k ≤ r.ring.queued) where
    pub freed-good : length l.records ≤ 1024 → Good (freed_at (length l.records) k r) l
    unfolding freed_at
    freed-good most =
        let f = good.fits in
        let s = dropped-sound r.ring l good.sound k h in
        let b = s.shaped.started in
        let q = counts in
        record {
          sound = s;
          fits = record { window = f.window; queue = let a = f.queue in omega arith; buffer = let a = f.buffer in omega arith; most = f.most; start = omega arith };
          twice = good.twice;
        }
      where
        counts : ((dropped_by (length l.records) k r.ring).queued ≤ r.ring.queued) × ((dropped_by (length l.records) k r.ring).reach ≤ r.ring.reach)
        counts = by-dropped r.ring l good.sound.shaped k h (λ n e. rw e (omega arith, omega arith)) (λ e. rw e (omega arith, omega arith))

    pub seen-freed : r.rcv_nxt < 2 ^ 32 → seen (freed_at (length l.records) k r) l ≡ freed k (seen r l)
    unfolding seen freed_at freed
    seen-freed low = rw (dropped_queue_law r.rcv_nxt low r.ring l good.sound.shaped k h, dropped_held_law r.rcv_nxt low r.ring l good.sound.shaped k h)

  module _ (buf : List ℕ) where
    -- of no more slots than are ever lent
    by-good : length l.records ≤ 1024 → (a : Answer) → Good (recv_by a r l buf).receiver l
    unfolding recv_by handed_at
    by-good most rules.empty = good
    by-good most rules.expecting = good
    by-good most rules.longer = good
    by-good most (gives n) = move-good (freed-good (message_at r l.records) (message-queued r l.records) most)

    pub recv-good : length l.records ≤ 1024 → Good (recv_at r l buf).receiver l
    unfolding recv_at
    recv-good most = by-good most (answer_at (length buf) r l.records)

    by-seen : r.rcv_nxt < 2 ^ 32 → (a : Answer) → seen (recv_by a r l buf).receiver l ≡ received a (seen r l)
    unfolding recv_by handed_at freed_at received
    by-seen low rules.empty = refl
    by-seen low rules.expecting = refl
    by-seen low rules.longer = refl
    by-seen low (gives n) =
        let k = message_at r l.records in
        let h = message-queued r l.records in
        moves_so (freed_at (length l.records) k r) l (dropped-sound r.ring l good.sound k h) low ∙ ap move_buf (seen-freed k h low ∙ ap (λ (i : ℕ). freed i (seen r l)) (sym (seen-message r l)))

    pub seen-recv : r.rcv_nxt < 2 ^ 32 → seen (recv_at r l buf).receiver l ≡ recv (length buf) (seen r l)
    unfolding recv_at recv
    seen-recv low = by-seen low (answer_at (length buf) r l.records) ∙ ap (λ (a : Answer). received a (seen r l)) (sym (seen-answer (length buf)))

module _ (r : Receiver) (l : Lists) (buf : List ℕ) (low : r.rcv_nxt < 2 ^ 32) where
  by_next : (a : Answer) → (recv_by a r l buf).receiver.rcv_nxt < 2 ^ 32
  unfolding recv_by handed_at
  by_next rules.empty = low
  by_next rules.expecting = low
  by_next rules.longer = low
  by_next (gives n) = move-next (freed_at (length l.records) (message_at r l.records) r) l.records

  pub recv-next : (recv_at r l buf).receiver.rcv_nxt < 2 ^ 32
  unfolding recv_at
  recv-next = by_next (answer_at (length buf) r l.records)
