-- What goes out in a flush: "Order: acks, probes, fresh and resent segments"; "An ask or tell carries sn and ts of the last ack of the same flush,
-- else 0". A piece is a header and its payload. Assumes nothing.
use Rattle.std.specs.Prelude.{ℕ, ◌+◌, ◌%◌, ◌^◌, Bool, List, [], ◌∷◌, ◌++◌, map, length, replicate}
use Rattle.serial.specs.Branch.{pick}
use Rattle.wire.specs.declared.Header.{Header}
use Rattle.wire.specs.Header.{header_bytes}
use Rattle.wire.specs.Commands.{push, ack, ask, tell}
use Rattle.sending.specs.Rules.{Segment}
use Rattle.flushing.specs.declared.due.Record.{Record}
use Rattle.flushing.specs.declared.due.Pace.{Pace}
use Rattle.flushing.specs.declared.due.Tally.{Tally}
use Rattle.flushing.specs.declared.headers.Told.{Told}
use Rattle.flushing.specs.Probing.{ask_set, tell_set}
use Rattle.flushing.specs.Due.{numbered, due_of, flown_by, goes_out, with_sent}
use Rattle.serial.specs.Wrap.{add32}

-- an ack that is to go out: the number and the time of the push
pub record Ack : Type 0 where
  pub sn : ℕ
  pub ts : ℕ

pub record Piece : Type 0 where
  pub header : Header
  pub payload : List ℕ

abbrev pub piece_bytes : Piece → List ℕ
piece_bytes p = header_bytes p.header ++ p.payload

abbrev pub piece_size : Piece → ℕ
piece_size p = 24 + length p.payload

-- ---- headers; conv, wnd and una are told in all of a flush, but for the conv of a push

-- an ack, an ask or a tell
abbrev pub bare_head : Told → ℕ → ℕ → ℕ → Header
bare_head t cmd sn ts = record { conv = t.conv; cmd = cmd; frg = 0; wnd = t.wnd; ts = ts; sn = sn; una = t.una; len = 0 }

-- a push carries the conv that its segment got in its first flight; frg is one byte
abbrev pub push_head : Told → Record → ℕ → Header
push_head t r len =
    record { conv = r.conv; cmd = push; frg = r.frg % 2 ^ 8; wnd = t.wnd; ts = r.ts; sn = r.sn; una = t.una; len = len }

-- ---- acks and probes

abbrev pub bare_piece : Told → ℕ → ℕ → ℕ → Piece
bare_piece t cmd sn ts = record { header = bare_head t cmd sn ts; payload = [] }

abbrev pub ack_pieces : Told → List Ack → List Piece
ack_pieces t acks = map (λ (a : Ack). bare_piece t ack a.sn a.ts) acks

-- "the last ack of the same flush, else 0"
unfoldable pub last_ack_of : Ack → List Ack → Ack
last_ack_of a [] = a
last_ack_of a (b ∷ l) = last_ack_of b l

abbrev pub last_ack : List Ack → Ack
last_ack l = last_ack_of (record { sn = 0; ts = 0 }) l

-- an ask or a tell, if its bit is set
unfoldable pub probe_piece : Told → ℕ → Bool → List Ack → List Piece
probe_piece t cmd set acks = pick set (bare_piece t cmd (last_ack acks).sn (last_ack acks).ts ∷ []) []

abbrev pub probe_pieces : Told → ℕ → List Ack → List Piece
probe_pieces t bits acks = probe_piece t ask (ask_set bits) acks ++ probe_piece t tell (tell_set bits) acks

-- ---- segments

abbrev pub record_of : Segment → Record
record_of s = record { conv = s.conv; frg = s.frg; sn = s.sn; ts = s.ts; resendts = s.resendts; rto = s.rto; fastack = s.fastack; xmit = s.xmit }

abbrev pub segment_from : Record → List ℕ → Segment
segment_from r payload = record { conv = r.conv; frg = r.frg; sn = r.sn; ts = r.ts; resendts = r.resendts; rto = r.rto; fastack = r.fastack; xmit = r.xmit; payload = payload }

-- those that leave the queue get their numbers, from `next` on
unfoldable pub numbered_from : ℕ → ℕ → ℕ → ℕ → List Segment → List Segment
numbered_from conv current rx_rto next [] = []
numbered_from conv current rx_rto next (s ∷ l) =
    segment_from (numbered conv next current rx_rto (record_of s)) s.payload ∷ numbered_from conv current rx_rto (add32 next 1) l

-- a segment in flight after the flush
abbrev pub sent_out : Pace → Segment → Segment
sent_out p s = segment_from (flown_by p (record_of s)).after s.payload

abbrev pub push_piece : Told → Segment → Piece
push_piece t s = record { header = push_head t (record_of s) (length s.payload); payload = s.payload }

-- those in flight that go out, in order
unfoldable pub due_pieces : Told → Pace → List Segment → List Piece
due_pieces t p [] = []
due_pieces t p (s ∷ l) = pick (goes_out (due_of p (record_of s))) (push_piece t (sent_out p s) ∷ due_pieces t p l) (due_pieces t p l)

-- what is counted of them all
unfoldable pub tallied : ℕ → Pace → List Segment → Tally → Tally
tallied dead_link p [] t = t
tallied dead_link p (s ∷ l) t =
    tallied dead_link p l (with_sent dead_link (due_of p (record_of s)) (flown_by p (record_of s)).after.xmit t)

-- ---- all of it

-- acks, ask, tell, and the segments in flight that go out
abbrev pub flush_pieces : Told → List Ack → ℕ → Pace → List Segment → List Piece
flush_pieces t acks bits p flying = ack_pieces t acks ++ (probe_pieces t bits acks ++ due_pieces t p flying)

-- ---- their sizes alone, as they are found before anything changes

abbrev pub segment_size : Segment → ℕ
segment_size s = 24 + length s.payload

-- of an ask and a tell
unfoldable pub probe_sizes : ℕ → List ℕ
probe_sizes bits = pick (ask_set bits) (24 ∷ []) [] ++ pick (tell_set bits) (24 ∷ []) []

-- of those in flight that go out
unfoldable pub due_sizes : Pace → List Segment → List ℕ
due_sizes p [] = []
due_sizes p (s ∷ l) = pick (goes_out (due_of p (record_of s))) (segment_size s ∷ due_sizes p l) (due_sizes p l)

-- of so many acks, the probe, those in flight, and those that are about to leave the queue, which all go out. Law: `flush-piece-sizes` of proofs/Calls
abbrev pub flush_sizes : ℕ → ℕ → Pace → List Segment → List Segment → List ℕ
flush_sizes acks bits p flying leaving =
    replicate acks 24 ++ (probe_sizes bits ++ (due_sizes p flying ++ map segment_size leaving))
