-- What una, acks and fastack do to the block's numbers and to the lent memory, every number and byte: the memory functions of `parse_una`,
-- `parse_ack` and `parse_fastack`. The decisions are those of the rules (sending/specs/Rules), asked of the numbers in the ring.
-- A row has eight numbers: conv, frg, sn, ts, resendts, rto, fastack, xmit. Assumes nothing.
use Rattle.std.specs.Prelude.{ℕ, zero, suc, ◌≤◌, ◌<◌, ◌≡◌, Bool, true, false, not, cond, ◌&&◌, ◌||◌, List, map, length, get_or, eqb, Option, Some, None}
use Rattle.serial.specs.Branch.{pick}
use Rattle.ring.specs.Records.{number_at}
use Rattle.ring.specs.Places.{place}
use Rattle.snd_ring.specs.declared.SndRing.{SndRing}
use Rattle.snd_ring.specs.Marks.{mark_at}
use Rattle.snd_ring.specs.Store.{Store, Stored, flight_of, waiting_of}
use Rattle.snd_ring.specs.Steps.{dropped, gapped, taken_out, with_marks, renumbered}
use Rattle.block.specs.declared.sender.Sender.{Sender}
use Rattle.block.specs.Parts.{with_snd_ring, with_una}
use Rattle.sending.specs.declared.Ack.{Ack}
use Rattle.sending.specs.Rules.{Segment, Sending, acknowledged_by, una_of, stops, in_range, meets, found, fastack_of}

-- ---- the columns of a row

abbrev pub conv : ℕ
conv = 0

abbrev pub frg : ℕ
frg = 1

abbrev pub sn : ℕ
sn = 2

abbrev pub ts : ℕ
ts = 3

abbrev pub resendts : ℕ
resendts = 4

abbrev pub rto : ℕ
rto = 5

abbrev pub fastack : ℕ
fastack = 6

abbrev pub xmit : ℕ
xmit = 7

-- ---- the memory as segments

abbrev pub segment_of : Stored → Segment
segment_of s = record {
  conv = get_or s.row conv 0;
  frg = get_or s.row frg 0;
  sn = get_or s.row sn 0;
  ts = get_or s.row ts 0;
  resendts = get_or s.row resendts 0;
  rto = get_or s.row rto 0;
  fastack = get_or s.row fastack 0;
  xmit = get_or s.row xmit 0;
  payload = s.payload;
}

unfoldable pub seen : Sender → Store → Sending
seen s m =
    record { una = s.snd_una; next = s.snd_nxt; flying = map segment_of (flight_of 8 s.ring m); waiting = map segment_of (waiting_of 8 s.ring m) }

-- the numbers in flight
unfoldable pub flying_numbers : SndRing → Store → List ℕ
flying_numbers r m = map (λ (x : Stored). get_or x.row sn 0) (flight_of 8 r m)

-- number k of the row at index i
abbrev pub number_in : SndRing → Store → ℕ → ℕ → ℕ
number_in r m i k = number_at 8 m.rows (place (length m.marks) r.start i) k

-- the block's numbers, and the memory
pub record Side : Type 0 where
  pub sender : Sender
  pub store : Store

abbrev pub side : Sender → Store → Side
side s m = record { sender = s; store = m }

-- ---- `parse_una` and `shrink_buf`

-- "snd_una = front number, or snd_nxt"
unfoldable pub shrunk_at : Sender → Store → Sender
shrunk_at s m = with_una s (una_of s.snd_nxt (flying_numbers s.ring m))

-- the segments in flight that una acknowledges are dropped; no memory changes
unfoldable pub una_at : ℕ → Sender → Store → Sender
una_at una s m = shrunk_at (with_snd_ring s (dropped s.ring m.marks (acknowledged_by una (flying_numbers s.ring m)))) m

-- ---- `parse_ack` and `shrink_buf`

-- whether the search for x ends at place q: a segment stands there with that number, or with one at which it stops
unfoldable pub ends_at : ℕ → Store → ℕ → Bool
ends_at x m q = not (eqb (get_or m.marks q 0) 0) && (eqb (number_at 8 m.rows q sn) x || stops x (number_at 8 m.rows q sn))

-- the same of index i
abbrev pub ends_in : ℕ → SndRing → Store → ℕ → Bool
ends_in x r m i = ends_at x m (place (length m.marks) r.start i)

-- the search goes over the n indices from i on, gaps passed over: the index where it ends
unfoldable pub sought : ℕ → SndRing → Store → ℕ → ℕ → ℕ
sought x r m i zero = i
sought x r m i (suc n) = cond (ends_in x r m i) i (sought x r m (suc i) n)

-- k is the first, of those from `from` on and before `to`, that ends a search, or `to`
pub record First (ends : ℕ → Bool) (from to k : ℕ) : Type 0 where
  pub low : from ≤ k
  pub high : k ≤ to
  pub passed : (q : ℕ) → from ≤ q → q < k → ends q ≡ false
  pub ended : k < to → ends k ≡ true

-- what the search answers: its end, if the number stands there
unfoldable pub found_at : ℕ → SndRing → Store → Option ℕ
found_at x r m = pick (meets x (flying_numbers r m)) (Some (sought x r m 0 r.reach)) None

-- the segment at index i is taken out
unfoldable pub removed_at : ℕ → Sender → Store → Side
removed_at i s m = side (with_snd_ring s (taken_out s.ring m.marks i)) (with_marks m (gapped s.ring m.marks i))

unfoldable pub shrunk_side : Side → Side
shrunk_side x = side (shrunk_at x.sender x.store) x.store

unfoldable pub ack_at : ℕ → Sender → Store → Side
ack_at x s m =
    shrunk_side (pick (found s.snd_una s.snd_nxt x (flying_numbers s.ring m)) (removed_at (sought x s.ring m 0 s.ring.reach) s m) (side s m))

-- ---- `parse_fastack`: one walk over the rows in flight, gaps passed over

unfoldable pub raised_one : ℕ → ℕ → SndRing → ℕ → Store → Store
raised_one max_ack latest_ts r i m =
    cond (eqb (mark_at m.marks r.start i) 0) m
    (renumbered 8 m (place (length m.marks) r.start i) fastack (fastack_of max_ack latest_ts (number_in r m i sn) (number_in r m i ts) (number_in r m i fastack)))

-- those at the n indices from i on
unfoldable pub raised_from : ℕ → ℕ → SndRing → ℕ → ℕ → Store → Store
raised_from max_ack latest_ts r i zero m = m
raised_from max_ack latest_ts r i (suc n) m = raised_from max_ack latest_ts r (suc i) n (raised_one max_ack latest_ts r i m)

unfoldable pub fastack_at : Option Ack → Sender → Store → Store
fastack_at None s m = m
fastack_at (Some l) s m = pick (in_range s.snd_una s.snd_nxt l.sn) (raised_from l.sn l.ts s.ring 0 s.ring.reach m) m
