-- What the receive side's calls do to the block's numbers and to the lent memory, every number and byte: the memory functions of `move_buf`,
-- of a push, of peeksize and recv. The decisions are those of the rules (receiving/specs/Rules), asked of the numbers in the ring. Assumes nothing.
use Rattle.std.specs.Prelude.{ℕ, ◌+◌, ◌-◌, ◌/◌, ◌%◌, max, ◌≡◌, Bool, List, [], ◌∷◌, map, length, take, eqb, ltb, leb, Result, Ok, Err}
use Rattle.serial.specs.Branch.{pick}
use Rattle.serial.specs.Wrap.{add32, sub32}
use Rattle.serial.specs.Window.{distance}
use Rattle.ring.specs.Lists.{Lists}
use Rattle.ring.specs.Records.{put, put_slot}
use Rattle.ring.specs.Places.{along}
use Rattle.rcv_ring.specs.declared.RcvRing.{RcvRing}
use Rattle.rcv_ring.specs.Places.{frg_at, size_at, payload_at}
use Rattle.rcv_ring.specs.Moves.{moved_by, dropped_by, stored_at}
use Rattle.rcv_ring.specs.Moves as ring
use Rattle.rcv_ring.specs.Views.{Held, span, held_of, held_at, ready_of}
use Rattle.block.specs.declared.receiver.Receiver.{Receiver}
use Rattle.block.specs.declared.probe.Probe.{Probe}
use Rattle.block.specs.declared.congestion.Congestion.{Congestion}
use Rattle.block.specs.declared.acklist.AckList.{AckList}
use Rattle.block.specs.declared.Kcp.{Kcp}
use Rattle.block.specs.declared.set.Set.{Set}
use Rattle.block.specs.declared.refusal.Refusal.TheVariants.{RecvQueueEmpty, ExpectingFragment, UserBufTooSmall, WindowTooLarge}
use Rattle.block.specs.Parts.{with_congestion, with_receiver, with_rcv_ring}
use Rattle.receiving.specs.Rules.{Segment, Receiving, Answer, empty, expecting, longer, gives, skipped, listed, reached, message, sum, peeked, unless_longer, tells, wanted, too_large}
use Rattle.receive.specs.declared.Pushed.{Pushed}
use Rattle.receive.specs.declared.Message.{Message}
use Rattle.block.specs.declared.refusal.Refusal.{Refusal}

-- ---- the memory as segments. Numbers are not stored: a held one is rcv_nxt and its distance, the i-th of the queue rcv_nxt less `queued`, and i

abbrev pub with_number : ℕ → Held → Segment
with_number next h = record { sn = add32 next h.distance; frg = h.content.frg; payload = h.content.payload }

unfoldable pub held_by : ℕ → RcvRing → Lists → List Segment
held_by next r l = map (with_number next) (held_of r l)

abbrev pub queued_at : ℕ → RcvRing → Lists → ℕ → Segment
queued_at next r l i = record { sn = add32 (sub32 next r.queued) i; frg = frg_at r l.records i; payload = payload_at r l i }

unfoldable pub queue_by : ℕ → RcvRing → Lists → List Segment
queue_by next r l = span (queued_at next r l) 0 r.queued

unfoldable pub seen : Receiver → Lists → Receiving
seen r l =
    record { next = r.rcv_nxt; window = r.rcv_wnd; largest = r.largest; queue = queue_by r.rcv_nxt r.ring l; held = held_by r.rcv_nxt r.ring l }

-- the fragment marks and the payloads' lengths of the queue
abbrev pub queue_frgs : RcvRing → List ℕ → List ℕ
queue_frgs r records = span (frg_at r records) 0 r.queued

abbrev pub queue_sizes : RcvRing → List ℕ → List ℕ
queue_sizes r records = span (size_at r records) 0 r.queued

-- the block's numbers, and the memory
pub record Side : Type 0 where
  pub receiver : Receiver
  pub lent : Lists

abbrev pub side : Receiver → Lists → Side
side r l = record { receiver = r; lent = l }

-- how many segments the message at the front of a queue has, by its fragment marks, and how many bytes
pub record Spans (frgs sizes : List ℕ) (m : Message) : Type 0 where
  pub segments_is : m.segments ≡ message frgs
  pub size_is : m.size ≡ sum (take (message frgs) sizes)

-- ---- `move_buf`: no memory moves

unfoldable pub ready_at : Receiver → List ℕ → ℕ
ready_at r records = ready_of r.ring records (r.rcv_wnd - r.ring.queued)

unfoldable pub move_buf_at : Receiver → List ℕ → Receiver
move_buf_at r records = with_rcv_ring r (add32 r.rcv_nxt (ready_at r records)) (moved_by (ready_at r records) r.ring)

-- ---- a push

-- how far its number lies past the next one
abbrev pub distance_of : Receiver → Segment → ℕ
distance_of r s = distance r.rcv_nxt s.sn

-- stored at its distance, where its number is not held
unfoldable pub stored_in : Receiver → Lists → Segment → Side
stored_in r l s =
    pick (held_at r.ring l.records (distance_of r s)) (side r l)
    (side (with_rcv_ring r r.rcv_nxt (ring.reached r.ring (distance_of r s))) (stored_at r.ring l (distance_of r s) s.frg s.payload))

-- held segments move, as `move_buf` moves them
unfoldable pub moved_at : Side → Side
moved_at x = side (move_buf_at x.receiver x.lent.records) x.lent

-- the receive side after a push
unfoldable pub push_at : Bool → Receiver → Lists → Segment → Side
push_at full r l s = pick (reached full r.rcv_nxt r.rcv_wnd s) (moved_at (stored_in r l s)) (side r l)

-- "the ack list is full": as many acks as there are pairs
abbrev pub full_at : ℕ → List ℕ → Bool
full_at acks list = leb (length list / 2) acks

-- the ack list, its count and its numbers, after a push
unfoldable pub acks_at : Bool → Receiver → Segment → ℕ → ℕ
acks_at full r s acks = pick (listed full r.rcv_nxt r.rcv_wnd s) (acks + 1) acks

unfoldable pub list_at : Bool → Receiver → Segment → ℕ → ℕ → List ℕ → List ℕ
list_at full r s ts acks list = pick (listed full r.rcv_nxt r.rcv_wnd s) (put_slot 2 list acks 0 (s.sn ∷ ts ∷ [])) list

-- 1 where the push is skipped
unfoldable pub skips_at : Bool → Receiver → Segment → ℕ
skips_at full r s = pick (skipped full r.rcv_nxt r.rcv_wnd s) 1 0

-- what a push of s at time ts leaves of a receive side, an ack list and the lent memory
pub record PushedAs (r : Receiver) (a : AckList) (l : Lists) (list : List ℕ) (s : Segment) (ts : ℕ) (o : Pushed) (l' : Lists) (list' : List ℕ) : Type 0 where
  pub receives : side o.receiver l' ≡ push_at (full_at a.acks list) r l s
  pub counts : o.acklist ≡ record { acks = acks_at (full_at a.acks list) r s a.acks; waiting = a.waiting }
  pub lists : list' ≡ list_at (full_at a.acks list) r s ts a.acks list
  pub skips : o.skipped ≡ skips_at (full_at a.acks list) r s

-- ---- peeksize and recv

unfoldable pub peek_at : Receiver → List ℕ → Answer
peek_at r records = peeked (queue_frgs r.ring records) (queue_sizes r.ring records)

unfoldable pub answer_at : ℕ → Receiver → List ℕ → Answer
answer_at room r records = unless_longer room (peek_at r records)

-- how many segments the message at the front has
unfoldable pub message_at : Receiver → List ℕ → ℕ
message_at r records = message (queue_frgs r.ring records)

-- the first k segments of the queue leave it, and their slots are free; no memory moves
unfoldable pub freed_at : ℕ → ℕ → Receiver → Receiver
freed_at slots k r = with_rcv_ring r r.rcv_nxt (dropped_by slots k r.ring)

-- the receive side once the message at the front is handed out
unfoldable pub handed_at : Receiver → List ℕ → Receiver
handed_at r records = move_buf_at (freed_at (length records) (message_at r records) r) records

-- and the buffer: the message's bytes from byte 0 on; "Bytes past the message stay"
unfoldable pub bytes_at : Receiver → Lists → List ℕ → List ℕ
bytes_at r l out = put out 0 (along (payload_at r.ring l) 0 (message_at r l.records))

-- "sets the tell bit if the queue was at or over rcv_wnd and now is under": the bit of value 2
unfoldable pub tell_bit : ℕ → ℕ
tell_bit bits = pick (eqb (bits / 2 % 2) 0) (bits + 2) bits

abbrev pub with_tell : Probe → Probe
with_tell p = record { bits = tell_bit p.bits; ts_probe = p.ts_probe; probe_wait = p.probe_wait }

-- the probe after a recv that leaves so many queued
unfoldable pub probe_at : Receiver → ℕ → Probe → Probe
probe_at r after probe = pick (tells r.rcv_wnd r.ring.queued after) (with_tell probe) probe

-- ---- answers: a length, or 5, 6 or 7

unfoldable pub length_answer : Answer → Result ℕ Refusal
length_answer empty = Err RecvQueueEmpty
length_answer expecting = Err ExpectingFragment
length_answer longer = Err UserBufTooSmall
length_answer (gives n) = Ok n

-- 01's number and values of each case, of the rules' answers and of the calls'
abbrev pub number_in : Answer → ℕ
number_in empty = 5
number_in expecting = 6
number_in longer = 7
number_in (gives n) = 0

abbrev pub values_in : Answer → List ℕ
values_in empty = []
values_in expecting = []
values_in longer = []
values_in (gives n) = n ∷ []

-- the receive side, the answer and the buffer after a recv: a refusal leaves the first and the last
pub record RecvSide : Type 0 where
  pub receiver : Receiver
  pub answer : Result ℕ Refusal
  pub buf : List ℕ

unfoldable pub recv_by : Answer → Receiver → Lists → List ℕ → RecvSide
recv_by (gives n) r l buf = record { receiver = handed_at r l.records; answer = Ok n; buf = bytes_at r l buf }
recv_by empty r l buf = record { receiver = r; answer = Err RecvQueueEmpty; buf = buf }
recv_by expecting r l buf = record { receiver = r; answer = Err ExpectingFragment; buf = buf }
recv_by longer r l buf = record { receiver = r; answer = Err UserBufTooSmall; buf = buf }

unfoldable pub recv_at : Receiver → Lists → List ℕ → RecvSide
recv_at r l buf = recv_by (answer_at (length buf) r l.records) r l buf

-- ---- the window setter: both windows of the block, with the lent slots

unfoldable pub widened_at : ℕ → Receiver → Receiver
widened_at w r = record { rcv_nxt = r.rcv_nxt; rcv_wnd = w; largest = max r.largest w; ring = r.ring }

-- as `set_wndsize`: a number of 0 leaves its window, and a receive window is at least 128
unfoldable pub send_window : ℕ → Congestion → Congestion
send_window sndwnd c =
    pick (ltb 0 sndwnd) (record { snd_wnd = sndwnd; rmt_wnd = c.rmt_wnd; cwnd = c.cwnd; ssthresh = c.ssthresh; incr = c.incr }) c

unfoldable pub receive_window : ℕ → Receiver → Receiver
receive_window rcvwnd r = pick (ltb 0 rcvwnd) (widened_at (wanted rcvwnd) r) r

-- "14 | rcvwnd > 0 and 2·max(rcvwnd, 128) > R | both windows as they were"
unfoldable pub windows_at : ℕ → Kcp → ℕ → ℕ → Set
windows_at slots k sndwnd rcvwnd =
    pick (too_large slots rcvwnd)
    (record { block = k; answer = Err WindowTooLarge })
    (record { block = with_receiver (with_congestion k (send_window sndwnd k.congestion)) (receive_window rcvwnd k.receiver); answer = Ok tt })
