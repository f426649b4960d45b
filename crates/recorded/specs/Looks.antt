-- The calls of the recording that change no lent memory: the block that it leaves, which is what its contract says, and its answer as the
-- numbers of a step. Assumes nothing.
use Rattle.std.specs.Prelude.{ℕ, ◌+◌, Bool, not, List, [], ◌∷◌, length, ◌==◌, nat_lt, Option, Some, None, Result, Ok, Err}
use Rattle.serial.specs.Branch.{pick}
use Rattle.serial.specs.Wrap.{low16, signed32}
use Rattle.ring.specs.Lists.{Lists}
use Rattle.wire.specs.Header.{conv_of, sn_of}
use Rattle.wire.specs.Helpers.{got, put_of, with_conv}
use Rattle.block.specs.declared.Kcp.{Kcp}
use Rattle.block.specs.declared.set.Set.{Set}
use Rattle.block.specs.Fresh.{Lent, fresh_plain, fresh_stream, lent_sizes, made_of}
use Rattle.block.specs.Parts.{with_receiver, with_sender}
use Rattle.block.specs.Setters.{set_mtu, set_interval, set_nodelay, set_rx_minrto, set_fast_resend, set_maximum_resend_times, input_conv, set_conv}
use Rattle.kcp_receive.specs.Calls.{move_buf_of, peeksize_of, RecvOut, recv_of, set_wndsize_of}
use Rattle.kcp_flush.specs.Calls.{check_of}
use Rattle.recorded.specs.declared.rows.Row.{Row}
use Rattle.recorded.specs.declared.rows.Call.{Call}
use Rattle.recorded.specs.declared.rows.Call.TheVariants.{Look as Looks}
use Rattle.recorded.specs.declared.rows.Look.{Look}
use Rattle.recorded.specs.declared.rows.Look.TheVariants.{New, Recv, Peeksize, MoveBuf, SetWndsize, Check, SetMtu, SetInterval, SetNodelay, SetRxMinrto, SetFastResend, SetMaximumResendTimes, InputConv, SetConv, Get, GetConv, PutConv, GetSn}
use Rattle.recorded.specs.declared.answers.Answer.{Answer}
use Rattle.recorded.specs.declared.looks.Made.{Made}
use Rattle.recorded.specs.Sums.{sum_of, zeros, bit, low32}
use Rattle.recorded.specs.Rows.{call_of}
use Rattle.recorded.specs.Answers.{told, refused_by, unknown, of_done, of_count, as_refusal}
use Rattle.block.specs.declared.refusal.Refusal.{Refusal}

abbrev pub made : Kcp → Answer → Made
made k a = record { block = k; answer = a }

-- by a setter that can be refused
abbrev pub by_set : Set → Made
by_set s = made s.block (of_done s.answer 0)

-- by one that cannot
abbrev pub set_to : Kcp → Made
set_to k = made k (told 0 0)

-- recv, with the sum over its buffer
abbrev pub by_recv : RecvOut → Made
by_recv o = made o.block (of_count o.answer (sum_of o.buf))

-- a flag is any number but 0
abbrev pub flag : ℕ → Bool
flag n = not (n == 0)

-- ---- "a block made anew: conv, stream, the numbers that receiving and sending start from"

abbrev pub starts_at : Kcp → ℕ → ℕ → Kcp
starts_at k rcv snd =
    with_sender
    (with_receiver k (record { rcv_nxt = rcv; rcv_wnd = k.receiver.rcv_wnd; largest = k.receiver.largest; ring = k.receiver.ring }))
    (record { snd_una = snd; snd_nxt = snd; ring = k.sender.ring; xmit = k.sender.xmit; dead = k.sender.dead })

unfoldable pub fresh_of : Row → Lent → Result Kcp Refusal
fresh_of r l = made_of (lent_sizes l) (pick (r.b == 0) (fresh_plain r.a) (fresh_stream r.a))

unfoldable pub started : Row → Kcp → Result Kcp Refusal → Made
started r k (Ok fresh) = made (starts_at fresh r.c r.d) (told 0 0)
started r k (Err why) = made k (refused_by why 0)

-- ---- the getters, and set_conv on bytes

-- "conv, waiting_conv, mtu, mss, snd_wnd, rcv_wnd, rmt_wnd, wait_snd, header_len, is_stream, is_dead_link"
unfoldable pub gotten : Kcp → List ℕ
gotten k =
    k.settings.conv ∷ bit k.settings.input_conv ∷ low32 k.settings.mtu ∷ low32 k.settings.mss ∷ k.congestion.snd_wnd ∷ k.receiver.rcv_wnd
    ∷ k.congestion.rmt_wnd ∷ low32 (k.sender.ring.flying + k.sender.ring.unsent) ∷ low32 24 ∷ bit k.settings.stream ∷ bit k.sender.dead ∷ []

-- the bytes that are handed are set in a copy of at most 64
unfoldable pub put_in : ℕ → List ℕ → Answer
put_in conv s = pick (nat_lt 64 (length s)) unknown (of_done (as_refusal (put_of s)) (sum_of (with_conv s conv)))

-- ---- recv

-- a buffer is of at most 8,192 bytes
unfoldable pub recv_step : ℕ → Kcp → Lists → Made
recv_step n k l = pick (nat_lt 8192 n) (made k unknown) (by_recv (recv_of k l (zeros n)))

-- ---- the call of the step r, with the bytes s

unfoldable pub look_of : Look → Row → List ℕ → Kcp → Lent → Made
look_of New r s k l = started r k (fresh_of r l)
look_of Recv r s k l = recv_step r.a k l.rcv
look_of Peeksize r s k l = made k (of_count (peeksize_of k l.rcv) 0)
look_of MoveBuf r s k l = by_set (move_buf_of k l.rcv)
look_of SetWndsize r s k l = by_set (set_wndsize_of k l.rcv (low16 r.a) (low16 r.b))
look_of Check r s k l = made k (of_count (check_of k l.snd r.a) 0)
look_of SetMtu r s k l = by_set (set_mtu k r.a)
look_of SetInterval r s k l = set_to (set_interval k r.a)
look_of SetNodelay r s k l = set_to (set_nodelay k (flag r.a) (signed32 r.b) (signed32 r.c) (flag r.d))
look_of SetRxMinrto r s k l = set_to (set_rx_minrto k r.a)
look_of SetFastResend r s k l = set_to (set_fast_resend k r.a)
look_of SetMaximumResendTimes r s k l = set_to (set_maximum_resend_times k r.a)
look_of InputConv r s k l = set_to (input_conv k)
look_of SetConv r s k l = set_to (set_conv k r.a)
look_of Get r s k l = made k (told 0 (sum_of (gotten k)))
look_of GetConv r s k l = made k (of_count (as_refusal (got conv_of s)) 0)
look_of PutConv r s k l = made k (put_in r.a s)
look_of GetSn r s k l = made k (of_count (as_refusal (got sn_of s)) 0)

-- ---- the same for any step, where the lists are lent to be looked at alone

-- a code under 5 names a call that changes them: set_wndsize is made in its place
unfoldable pub look_by : Option Call → Option Look
look_by (Some (Looks look)) = Some look
look_by (Some _) = Some SetWndsize
look_by None = None

unfoldable pub looked_by : Option Look → Row → List ℕ → Kcp → Lent → Made
looked_by (Some look) r s k l = look_of look r s k l
looked_by None r s k l = made k unknown

-- whatever the code is; one that names no call leaves the block
unfoldable pub look_of_row : Row → List ℕ → Kcp → Lent → Made
look_of_row r s k l = looked_by (look_by (call_of r.code)) r s k l
