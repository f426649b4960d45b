-- The calls of demand 3: every call that there is, with any arguments, refused ones among them; what each leaves of the block and of the memory that it is
-- handed, which is what its contract says (kcp_receive/specs, kcp_flush/specs, block/specs/Setters); whether it passes the test for 15; and what it does to the
-- receive side, as events of the rules. Assumes nothing.
use Rattle.std.specs.Prelude.{ℕ, ◌<◌, Bool, true, cond, ◌&&◌, List, [], ◌∷◌, ◌++◌, length, leb, ℤ}
use Rattle.wire.specs.LittleEndian.{Octets}
use Rattle.ring.specs.Lists.{Lists, lists}
use Rattle.snd_ring.specs.Store.{Store, store_of}
use Rattle.block.specs.declared.Kcp.{Kcp}
use Rattle.block.specs.Fresh.{Lent}
use Rattle.block.specs.Setters.{set_mtu, set_interval, set_nodelay, set_rx_minrto, set_fast_resend, set_maximum_resend_times, input_conv, set_conv}
use Rattle.receiving.specs.Rules.{Receiving}
use Rattle.receiving.specs.History.{Event, event_recv, event_move, event_window}
use Rattle.receive.specs.Memory.{seen}
use Rattle.receive.specs.Fits.{receive_fits}
use Rattle.transmit.specs.Fits.{send_fits}
use Rattle.input.specs.Datagram.{met_of}
use Rattle.kcp_receive.specs.Calls.{move_buf_of, recv_of, set_wndsize_of}
use Rattle.kcp_send.specs.Send.{send_of}
use Rattle.kcp_input.specs.Input.{input_fits, input_of}
use Rattle.packing.specs.FlushAck.{Writing, writing}
use Rattle.output.specs.Memory.{FlushOut}
use Rattle.kcp_flush.specs.Calls.{ack_fits, flush_fits, flush_ack_of, flush_of, update_of}
use Rattle.history.specs.Pushes.{pushes_of}

-- the setters that are handed no memory
pub data Setting : Type 0 where
  of_mtu : ℕ → Setting
  of_interval : ℕ → Setting
  of_nodelay : Bool → ℤ → ℤ → Bool → Setting
  of_rx_minrto : ℕ → Setting
  of_fast_resend : ℕ → Setting
  of_maximum_resend_times : ℕ → Setting
  of_input_conv : Setting
  of_conv : ℕ → Setting

-- the bytes of a datagram are below 256, and a send window has 16 bits, as any have; flush_ack, flush and update are handed the bytes and the lengths
-- that they write, with whatever stands there; a getter, wait_snd among them, is one call
pub data Call : Type 0 where
  call_input : (datagram : List ℕ) → Octets datagram → Call
  call_send : List ℕ → Call
  call_move_buf : Call
  call_peeksize : Call
  call_recv : List ℕ → Call
  call_flush_ack : (out lengths : List ℕ) → Call
  call_flush : (out lengths : List ℕ) → Call
  call_update : (current : ℕ) (out lengths : List ℕ) → Call
  call_check : (current : ℕ) → Call
  call_set_wndsize : (sndwnd : ℕ) → sndwnd < 65536 → ℕ → Call
  call_set : Setting → Call
  call_get : Call

-- the two lent lists of a send side that has these marks, rows and bytes
abbrev pub lists_of : Store → Lists
lists_of m = lists (m.marks ++ m.rows) m.room

-- the block, and the memory that it is lent: that of the receive side, the ack memory and that of the send side
pub record Memory : Type 0 where
  pub block : Kcp
  pub rcv : Lists
  pub acks : List ℕ
  pub waiting : List ℕ
  pub snd : Lists

-- a block with this memory
abbrev pub lent_to : Kcp → Lent → Memory
lent_to k l = record { block = k; rcv = l.rcv; acks = l.acks; waiting = l.waiting; snd = l.snd }

abbrev pub with_block : Memory → Kcp → Memory
with_block m k = record { block = k; rcv = m.rcv; acks = m.acks; waiting = m.waiting; snd = m.snd }

-- what waits, and the bytes and lengths that are lent to be written
abbrev pub to_write : Memory → List ℕ → List ℕ → Writing
to_write m out lengths = writing m.waiting out lengths

-- what a flush leaves
abbrev pub flushed_to : Memory → FlushOut → Memory
flushed_to m o = record { block = o.out.block; rcv = m.rcv; acks = m.acks; waiting = o.out.written.waiting; snd = lists_of o.store }

unfoldable pub set_by : Setting → Kcp → Kcp
set_by (of_mtu mtu) k = (set_mtu k mtu).block
set_by (of_interval interval) k = set_interval k interval
set_by (of_nodelay nodelay interval resend nc) k = set_nodelay k nodelay interval resend nc
set_by (of_rx_minrto rto) k = set_rx_minrto k rto
set_by (of_fast_resend fr) k = set_fast_resend k fr
set_by (of_maximum_resend_times n) k = set_maximum_resend_times k n
set_by of_input_conv k = input_conv k
set_by (of_conv conv) k = set_conv k conv

-- what a call leaves
unfoldable pub leaves : Call → Memory → Memory
leaves (call_input s bytes) m =
    let o = input_of m.block m.rcv m.acks m.waiting m.snd s in
    record { block = o.block; rcv = o.rcv; acks = o.acks; waiting = m.waiting; snd = lists_of o.snd }
leaves (call_send bytes) m =
    let o = send_of m.block m.snd bytes in
    record { block = o.block; rcv = m.rcv; acks = m.acks; waiting = m.waiting; snd = lists_of o.store }
leaves call_move_buf m = with_block m (move_buf_of m.block m.rcv).block
leaves call_peeksize m = m
leaves (call_recv buf) m =
    let o = recv_of m.block m.rcv buf in
    record { block = o.block; rcv = m.rcv; acks = m.acks; waiting = m.waiting; snd = m.snd }
leaves (call_flush_ack out lengths) m =
    let o = flush_ack_of m.block m.acks (to_write m out lengths) in
    record { block = o.block; rcv = m.rcv; acks = m.acks; waiting = o.written.waiting; snd = m.snd }
leaves (call_flush out lengths) m = flushed_to m (flush_of m.block m.snd m.acks (to_write m out lengths))
leaves (call_update current out lengths) m = flushed_to m (update_of m.block m.snd m.acks (to_write m out lengths) current)
leaves (call_check current) m = m
leaves (call_set_wndsize sndwnd fits rcvwnd) m = with_block m (set_wndsize_of m.block m.rcv sndwnd rcvwnd).block
leaves (call_set x) m = with_block m (set_by x m.block)
leaves call_get m = m

-- the receive side as it is seen in the memory
abbrev pub seen_in : Memory → Receiving
seen_in m = seen m.block.receiver m.rcv

-- ---- "15 | block or lent memory not well formed, or a size outside the limits"

-- whether the call passes that test; "a call handed no pool or list never gives 15"
unfoldable pub passes : Call → Memory → Bool
passes (call_input s bytes) m = input_fits m.block m.rcv m.acks m.waiting m.snd
passes (call_send bytes) m = send_fits m.block m.snd
passes call_move_buf m = receive_fits m.block m.rcv
passes call_peeksize m = receive_fits m.block m.rcv
passes (call_recv buf) m = receive_fits m.block m.rcv
passes (call_flush_ack out lengths) m = ack_fits m.block m.acks m.waiting
passes (call_flush out lengths) m = flush_fits m.block m.snd m.acks m.waiting
passes (call_update current out lengths) m = flush_fits m.block m.snd m.acks m.waiting
passes (call_check current) m = send_fits m.block m.snd
passes (call_set_wndsize sndwnd fits rcvwnd) m = receive_fits m.block m.rcv
passes (call_set x) m = true
passes call_get m = true

-- ---- what a call does to the receive side, as events of the rules

-- an input that is refused by 15, 11 or 1 reads no segment
abbrev pub is_read : Memory → List ℕ → Bool
is_read m s = input_fits m.block m.rcv m.acks m.waiting m.snd && (leb 24 (length s) && leb (length s) 1500)

-- the event of a call that is handed the receive pool, unless it is refused by 15; 5, 6, 7 and 14 are the rules'
abbrev pub unless_bad : Memory → Event → List Event
unless_bad m e = cond (receive_fits m.block m.rcv) (e ∷ []) []

unfoldable pub events : Call → Memory → List Event
events (call_input s bytes) m = cond (is_read m s) (pushes_of s (met_of m.block m.rcv m.acks (store_of 8 m.snd))) []
events (call_send bytes) m = []
events call_move_buf m = unless_bad m event_move
events call_peeksize m = []
events (call_recv buf) m = unless_bad m (event_recv (length buf))
events (call_flush_ack out lengths) m = []
events (call_flush out lengths) m = []
events (call_update current out lengths) m = []
events (call_check current) m = []
events (call_set_wndsize sndwnd fits rcvwnd) m = unless_bad m (event_window rcvwnd)
events (call_set x) m = []
events call_get m = []
