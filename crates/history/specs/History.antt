-- Demand 3 over the calls themselves: any calls from a fresh block whose lent memory only these calls touch, those among them that are handed other
-- memory and so refused by 15. Assumes nothing.
use Rattle.std.specs.Prelude.{ℕ, ◌+◌, ◌≤◌, ◌<◌, ◌%◌, ◌^◌, ◌≡◌, true, false, List, [], ◌∷◌, ◌++◌, length, drop, get_or}
use Rattle.std.proofs.Math.Option.{some}
use Rattle.serial.specs.Window.{distance}
use Rattle.wire.specs.LittleEndian.{Octets}
use Rattle.ring.specs.Counting.{count}
use Rattle.rcv_ring.specs.declared.RcvRing.{RcvRing}
use Rattle.snd_ring.specs.Store.{store_of}
use Rattle.block.specs.WellFormed.{OwnNumbers}
use Rattle.block.specs.Sizes.{pairs}
use Rattle.block.specs.declared.congestion.Congestion.{Congestion}
use Rattle.block.specs.Fresh.{Lent}
use Rattle.receiving.specs.Rules.{Segment, Ordered, payloads, joined}
use Rattle.receiving.specs.History.{run_from, first, none-segment, Sound}
use Rattle.receiving.specs.History as rules
use Rattle.receive.specs.Memory.{seen}
use Rattle.transmit.specs.Memory.{flying_numbers}
use Rattle.kcp_receive.specs.Calls.{recv_of}
use Rattle.input.specs.Segment.{Met}
use Rattle.input.specs.Datagram.{met_of, walk_from}
use Rattle.history.specs.Pushes.{pushes_from}
use Rattle.history.specs.Calls.{Call, call_recv, Memory, lent_to, with_block, leaves, seen_in, passes, is_read, events}

-- ---- the history: the memory, and what happened to the receive side so far, as the rules tell it

pub record History : Type 0 where
  pub now : Memory
  pub past : rules.Past

abbrev pub slots_of : History → ℕ
slots_of h = length h.now.rcv.records

-- a turn: a call that is handed the block's own memory, or other memory in its place, of any size and with anything in it
pub data Turn : Type 0 where
  on_own : Call → Turn
  on_other : Lent → Call → Turn

-- a call on other memory leaves the block's own memory; what it leaves of the block counts
unfoldable pub step : History → Turn → History
step h (on_own c) = record { now = leaves c h.now; past = run_from (slots_of h) h.past (events c h.now) }
step h (on_other l c) =
    let m = lent_to h.now.block l in
    record { now = with_block h.now (leaves c m).block; past = run_from (slots_of h) h.past (events c m) }

unfoldable pub run : History → List Turn → History
run h [] = h
run h (t ∷ turns) = run (step h t) turns

-- each call is handed the block's own memory, or is refused by 15
abbrev pub OwnOrRefused : History → List Turn → Type 0
OwnOrRefused h [] = Unit {0}
OwnOrRefused h (on_own c ∷ turns) = OwnOrRefused (step h (on_own c)) turns
OwnOrRefused h (on_other l c ∷ turns) = (passes c (lent_to h.now.block l) ≡ false) × OwnOrRefused (step h (on_other l c)) turns

-- nothing has happened yet
unfoldable pub begun : Memory → History
begun m = record { now = m; past = rules.begun }

-- ---- what is said of a history

-- the segments that ever moved to the queue, in order: those handed out, and those that it has
abbrev pub arrived : History → List Segment
arrived h = h.past.handed ++ (seen_in h.now).queue

-- a recv with this buffer
pub record Reads (h : History) (buf : List ℕ) : Type 0 where
  -- the segments that it hands out, behind those handed out before
  pub new : List Segment
  pub hands : (step h (on_own (call_recv buf))).past.handed ≡ h.past.handed ++ new
  -- the buffer then has their payloads end to end, and behind them what stood there
  pub bytes : (recv_of h.now.block h.now.rcv buf).buf ≡ joined (payloads new) ++ drop (length (joined (payloads new))) buf
  pub within : length (joined (payloads new)) ≤ length buf

-- slots in use: those of the queue, and those in reach whose word is a segment's
abbrev pub slots_used_in : RcvRing → List ℕ → ℕ
slots_used_in r records = r.queued + count 65536 records r.start r.queued r.reach

abbrev pub slots_used : Memory → ℕ
slots_used m = slots_used_in m.block.receiver.ring m.rcv.records

-- of the send side, all that it reaches, gaps too, and what waits
abbrev pub send_slots_used : Memory → ℕ
send_slots_used m = m.block.sender.ring.reach + m.block.sender.ring.unsent

-- a datagram that is read, after j of its segments, or after all where it has fewer or one is refused: what is met there, and what happened so far
module _ (h : History) (s : List ℕ) (j : ℕ) where
  abbrev pub begins : Met
  begins = met_of h.now.block h.now.rcv h.now.acks (store_of 8 h.now.snd)

  abbrev pub met_there : Met
  met_there = (walk_from s j 0 begins).met

  abbrev pub past_there : rules.Past
  past_there = run_from (slots_of h) h.past (pushes_from s j 0 begins)

  pub record Inside : Type 0 where
    pub sees : past_there.now ≡ seen met_there.block.receiver met_there.rcv
    pub sound : Sound (slots_of h) past_there
    pub slots : rules.in_use past_there.now ≡ slots_used_in met_there.block.receiver.ring met_there.rcv.records

-- all is read, and all is sent and acked
pub record Drained (h : History) : Type 0 where
  pub read : length h.past.pushes ≡ length h.past.handed
  pub sent : h.now.block.sender.ring.unsent ≡ 0
  pub acked : h.now.block.sender.snd_una ≡ h.now.block.sender.snd_nxt

-- how much is lent
abbrev pub sizes_of : Memory → List ℕ
sizes_of m =
    length m.rcv.records ∷ length m.rcv.room ∷ length m.snd.records ∷ length m.snd.room ∷ length m.acks ∷ length m.waiting ∷ []

-- numbers in flight rise in [snd_una, snd_nxt)
abbrev pub Rising : Memory → Type 0
Rising m =
    Ordered m.block.sender.snd_una 0 (distance m.block.sender.snd_una m.block.sender.snd_nxt) (flying_numbers m.block.sender.ring (store_of 8 m.snd))

-- the numbers of 16 bits beside the receive windows, which are at most 512
pub record Short (c : Congestion) : Type 0 where
  pub snd : c.snd_wnd < 65536
  pub rmt : c.rmt_wnd < 65536
  pub cwnd : c.cwnd < 65536
  pub ssthresh : c.ssthresh < 65536

-- demand 3, of a history that began with the memory `start`
pub record SoundCalls (start : Memory) (h : History) : Type 0 where
  -- what the rules tell is what is seen in the memory
  pub sees : h.past.now ≡ seen_in h.now
  -- order of the held segments, what is handed out, slots in use
  pub sound : Sound (slots_of h) h.past
  -- and that inside a datagram too, between any two segments: no push is turned away for want of a slot
  pub inside : (s : List ℕ) → Octets s → is_read h.now s ≡ true → (j : ℕ) → Inside h s j
  -- the k-th segment that was handed out or is queued is the first push taken for place k, its number, mark and payload: the number is k modulo 2^32
  pub number : (k : ℕ) → k < length (arrived h) → (get_or (arrived h) k none-segment).sn ≡ k % 2 ^ 32
  pub first_taken : (k : ℕ) → k < length (arrived h) → first k h.past.pushes ≡ some (get_or (arrived h) k none-segment)
  -- the bytes that recv writes are those of the segments that it hands out
  pub reads : (buf : List ℕ) → Reads h buf
  -- the slots in use are those that the memory shows
  pub slots : rules.in_use (seen_in h.now) ≡ slots_used h.now
  -- a block that has drained uses none
  pub drained : Drained h → (slots_used h.now ≡ 0) × (send_slots_used h.now ≡ 0)
  -- the block holds what it was lent, no more and no less, and at most A acks
  pub lent : sizes_of h.now ≡ sizes_of start
  pub acks : h.now.block.acklist.acks ≤ pairs (length h.now.acks)
  -- no call that is handed the block's own memory is refused by 15, and one that is, on other memory, leaves everything, the other memory too
  pub passed : (c : Call) → passes c h.now ≡ true
  pub refused : (l : Lent) (c : Call) → passes c (lent_to h.now.block l) ≡ false → (step h (on_other l c) ≡ h) × (leaves c (lent_to h.now.block l) ≡ lent_to h.now.block l)
  pub rising : Rising h.now
  -- the block's own numbers are well formed, and its windows have 16 bits
  pub own : OwnNumbers h.now.block
  pub short : Short h.now.block.congestion
  -- and snd_nxt lies no farther past snd_una than the largest send window
  pub near : distance h.now.block.sender.snd_una h.now.block.sender.snd_nxt ≤ 65535
