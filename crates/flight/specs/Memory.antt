-- "fresh and resent segments": what a flush does to the send ring in lent memory, every number of it, and what it sends of it. The decisions are those of
-- the rules (flushing/specs/Due), asked of the rows. Each walk goes over a list of places, front to back, gaps passed over. Assumes nothing.
use Rattle.std.specs.Prelude.{ℕ, ◌+◌, ◌-◌, Bool, not, ◌&&◌, List, [], ◌∷◌, ◌++◌, map, length, get_or, eqb}
use Rattle.serial.specs.Branch.{pick}
use Rattle.serial.specs.Wrap.{add32}
use Rattle.wire.specs.Header.{header_bytes}
use Rattle.ring.specs.Records.{put_slot, part_slot, number_at}
use Rattle.snd_ring.specs.declared.SndRing.{SndRing}
use Rattle.snd_ring.specs.Store.{Store, store}
use Rattle.snd_ring.specs.Steps.{ring}
use Rattle.block.specs.declared.sender.Sender.{Sender}
use Rattle.transmit.specs.Memory.{conv, frg, sn, ts, resendts, rto, fastack, xmit, Side, side}
use Rattle.flushing.specs.declared.due.Record.{Record}
use Rattle.flushing.specs.declared.due.Pace.{Pace}
use Rattle.flushing.specs.declared.due.Tally.{Tally}
use Rattle.flushing.specs.declared.headers.Told.{Told}
use Rattle.flushing.specs.Due.{numbered, due_of, flown_by, goes_out, with_sent}
use Rattle.flushing.specs.Pieces.{push_head}
use Rattle.flight.specs.declared.Reckoning.{Reckoning}
use Rattle.flight.specs.Places.{places_of, over}

-- ---- a row as a record

-- that at place q
unfoldable pub record_in : Store → ℕ → Record
record_in m q = record {
  conv = number_at 8 m.rows q conv;
  frg = number_at 8 m.rows q frg;
  sn = number_at 8 m.rows q sn;
  ts = number_at 8 m.rows q ts;
  resendts = number_at 8 m.rows q resendts;
  rto = number_at 8 m.rows q rto;
  fastack = number_at 8 m.rows q fastack;
  xmit = number_at 8 m.rows q xmit;
}

abbrev pub row_of : Record → List ℕ
row_of r = r.conv ∷ r.frg ∷ r.sn ∷ r.ts ∷ r.resendts ∷ r.rto ∷ r.fastack ∷ r.xmit ∷ []

-- the row at place q becomes that of r, and all else stays
unfoldable pub renewed_at : Store → ℕ → Record → Store
renewed_at m q r = store m.marks (put_slot 8 m.rows q 0 (row_of r)) m.room

-- ---- "move data from snd_queue to snd_buf"

-- the places of the indices in flight, and of the first k that wait
abbrev pub flight_places : SndRing → Store → List ℕ
flight_places r m = places_of (length m.marks) r.start 0 r.reach

abbrev pub waiting_places : SndRing → Store → ℕ → List ℕ
waiting_places r m k = places_of (length m.marks) r.start r.reach k

-- the rows at these places are numbered, from sn on
unfoldable pub launched_over : ℕ → ℕ → ℕ → ℕ → List ℕ → Store → Store
launched_over c current rx_rto n [] m = m
launched_over c current rx_rto n (q ∷ qs) m =
    launched_over c current rx_rto (add32 n 1) qs (renewed_at m q (numbered c n current rx_rto (record_in m q)))

-- the block's numbers once k segments have left the queue
unfoldable pub launched_sender : ℕ → Sender → Sender
launched_sender k s =
    record { snd_una = s.snd_una; snd_nxt = add32 s.snd_nxt k; ring = ring s.ring.start (s.ring.reach + k) (s.ring.flying + k) (s.ring.unsent - k); xmit = s.xmit; dead = s.dead }

-- the first k that wait leave the queue
unfoldable pub launched_at : ℕ → ℕ → ℕ → ℕ → Sender → Store → Side
launched_at conv current rx_rto k s m = side (launched_sender k s) (launched_over conv current rx_rto s.snd_nxt (waiting_places s.ring m k) m)

-- ---- one place: whether a segment stands there, and what is done to it

abbrev pub mark_in : Store → ℕ → ℕ
mark_in m q = get_or m.marks q 0

abbrev pub is_gap : Store → ℕ → Bool
is_gap m q = eqb (mark_in m q) 0

-- its row afterwards
unfoldable pub flown_at : Pace → Store → ℕ → Store
flown_at pace m q = pick (is_gap m q) m (renewed_at m q (flown_by pace (record_in m q)).after)

-- what is counted
unfoldable pub tallied_at : ℕ → Pace → Store → ℕ → Tally → Tally
tallied_at dead_link pace m q t = pick (is_gap m q) t (with_sent dead_link (due_of pace (record_in m q)) (flown_by pace (record_in m q)).after.xmit t)

-- whether it goes out, and how many bytes it then is: a header and the payload
unfoldable pub goes_at : Pace → Store → ℕ → Bool
goes_at pace m q = not (is_gap m q) && goes_out (due_of pace (record_in m q))

abbrev pub size_in : Store → ℕ → ℕ
size_in m q = 24 + (mark_in m q - 1)

unfoldable pub size_at : Pace → Store → ℕ → List ℕ
size_at pace m q = pick (goes_at pace m q) (size_in m q ∷ []) []

-- these bytes
abbrev pub bytes_in : Told → Pace → Store → ℕ → List ℕ
bytes_in told pace m q =
    header_bytes (push_head told (flown_by pace (record_in m q)).after (mark_in m q - 1)) ++ part_slot 1476 m.room q 0 (mark_in m q - 1)

unfoldable pub piece_at : Told → Pace → Store → ℕ → List (List ℕ)
piece_at told pace m q = pick (goes_at pace m q) (bytes_in told pace m q ∷ []) []

-- when it is to be resent
unfoldable pub resendts_at : Store → ℕ → List ℕ
resendts_at m q = pick (is_gap m q) [] (number_at 8 m.rows q resendts ∷ [])

-- ---- the walk of a flush: each place is read as the walk comes to it, and its row is renewed. That this is what was there before, since each place is
-- visited once: proofs/Seen

unfoldable pub flown_over : Pace → List ℕ → Store → Store
flown_over pace [] m = m
flown_over pace (q ∷ qs) m = flown_over pace qs (flown_at pace m q)

unfoldable pub tally_over : ℕ → Pace → List ℕ → Store → Tally → Tally
tally_over dead_link pace [] m t = t
tally_over dead_link pace (q ∷ qs) m t = tally_over dead_link pace qs (flown_at pace m q) (tallied_at dead_link pace m q t)

-- what goes out, in order
unfoldable pub pieces_over : Told → Pace → List ℕ → Store → List (List ℕ)
pieces_over told pace [] m = []
pieces_over told pace (q ∷ qs) m = piece_at told pace m q ++ pieces_over told pace qs (flown_at pace m q)

-- ---- walks that change nothing

-- the sizes of what goes out; and of segments that are about to leave the queue, each of which goes out as fresh
unfoldable pub sizes_over : Pace → List ℕ → Store → List ℕ
sizes_over pace qs m = over (size_at pace m) qs

abbrev pub fresh_sizes : List ℕ → Store → List ℕ
fresh_sizes qs m = map (size_in m) qs

-- when the segments are to be resent
unfoldable pub resendts_over : List ℕ → Store → List ℕ
resendts_over qs m = over (resendts_at m) qs

-- ---- a wait at the time `current`: when it is over, and how many times there are from then on before those that are past
abbrev pub reckoned_of : ℕ → ℕ → Reckoning
reckoned_of current tm = record { tm = tm; until = add32 current tm; ahead = 2147483648 - tm }
