-- "That any two outcomes meeting it coincide is itself proved": of every public call one row, its contract twice and the two outcomes equal. Where a contract is
-- an equation, the outcome is what it names. Assumes nothing.
use Rattle.std.specs.Prelude.{Result}
use Prim.Native.Nat.{ℕ, ◌+◌}
use mathlib.Core.Path.{◌≡◌, sym, ◌∙◌}
use mathlib.Core.Bool.{Bool}
use mathlib.Core.List.{List}
use lib.IntN.{ℤ}
use Rattle.serial.specs.Branch.{pick}
use Rattle.ring.specs.Lists.{Lists}
use Rattle.wire.specs.Header.{conv_of, sn_of}
use Rattle.wire.specs.Helpers.{Got, ConvSet}
use Rattle.block.specs.declared.Kcp.{Kcp}
use Rattle.block.specs.Fresh.{Lent, fresh_plain, fresh_stream, Makes}
use Rattle.block.specs.Setters.{MtuSet, set_interval, set_nodelay, set_rx_minrto, set_fast_resend, set_maximum_resend_times, input_conv, set_conv}
use Rattle.receive.specs.Fits.{receive_fits}
use Rattle.packing.specs.FlushAck.{Writing}
use Rattle.kcp_receive.specs.Calls.{Promised, move_buf_of, Peeked, Receives, set_wndsize_of, wndsize_number}
use Rattle.kcp_send.specs.Send.{Sends}
use Rattle.kcp_input.specs.Input.{Inputs}
use Rattle.kcp_flush.specs.Calls.{FlushesAck, Flushes, Updates, Checks}
use Rattle.wire.specs.declared.ShortHeader.{ShortHeader}

-- at most one outcome meets it
abbrev pub Once : {A : Type 0} → (A → Type 0) → Type 0
Once {A} Meets = (x y : A) → Meets x → Meets y → x ≡ y

-- exactly this one does
abbrev pub Is : {A : Type 0} → A → A → Type 0
Is a x = x ≡ a

module _ (k : Kcp) (rcv snd : Lists) (acks waiting : List ℕ) where
  abbrev lent : Lent
  lent = record { rcv = rcv; snd = snd; acks = acks; waiting = waiting }

  -- of a block, and of memory that is lent, whichever they are
  pub record Determined : Type 0 where
    pub new : (conv : ℕ) → Once (Makes lent (fresh_plain conv))
    pub new_stream : (conv : ℕ) → Once (Makes lent (fresh_stream conv))
    pub move_buf : Once (Promised (move_buf_of k rcv) (pick (receive_fits k rcv) 0 15))
    pub recv : (buf : List ℕ) → Once (Receives k rcv buf)
    pub peeksize : Once (Peeked k rcv)
    pub send : (bytes : List ℕ) → Once (Sends k snd bytes)
    pub input-conv : Once (Is (input_conv k))
    pub waiting_conv : Once (Is k.settings.input_conv)
    pub set-conv : (conv : ℕ) → Once (Is (set_conv k conv))
    pub conv : Once (Is k.settings.conv)
    pub input : (datagram : List ℕ) → Once (Inputs k rcv acks waiting snd datagram)
    pub check : (current : ℕ) → Once (Checks k snd current)
    pub set-mtu : (mtu : ℕ) → Once (MtuSet k mtu)
    pub mtu : Once (Is k.settings.mtu)
    pub set-interval : (interval : ℕ) → Once (Is (set_interval k interval))
    pub set-nodelay : (nodelay : Bool) (interval resend : ℤ) (nc : Bool) → Once (Is (set_nodelay k nodelay interval resend nc))
    pub set_wndsize : (sndwnd rcvwnd : ℕ) → Once (Promised (set_wndsize_of k rcv sndwnd rcvwnd) (wndsize_number k rcv rcvwnd))
    pub snd_wnd : Once (Is k.congestion.snd_wnd)
    pub rcv_wnd : Once (Is k.receiver.rcv_wnd)
    pub wait_snd : Once (Is (k.sender.ring.flying + k.sender.ring.unsent))
    pub rmt_wnd : Once (Is k.congestion.rmt_wnd)
    pub set-rx-minrto : (rto : ℕ) → Once (Is (set_rx_minrto k rto))
    pub set-fast-resend : (fr : ℕ) → Once (Is (set_fast_resend k fr))
    pub header_len : Once {A = ℕ} (Is 24)
    pub is_stream : Once (Is k.settings.stream)
    pub mss : Once (Is k.settings.mss)
    pub set-maximum-resend-times : (times : ℕ) → Once (Is (set_maximum_resend_times k times))
    pub is_dead_link : Once (Is k.sender.dead)
    pub flush_ack : (w : Writing) → Once (FlushesAck k acks w)
    pub flush : (w : Writing) → Once (Flushes k snd acks w)
    pub update : (w : Writing) (current : ℕ) → Once (Updates k snd acks w current)
    -- of the header helpers, which are handed no block: set_conv with the bytes that it leaves
    pub get_conv : (buf : List ℕ) → Once (Got conv_of buf)
    pub get_sn : (buf : List ℕ) → Once (Got sn_of buf)
    pub put_conv : (buf : List ℕ) (conv : ℕ) (r s : Result Unit ShortHeader) (after then : List ℕ) → ConvSet buf conv r after → ConvSet buf conv s then → (r ≡ s) × (after ≡ then)

  same : {A : Type 0} {a x y : A} → x ≡ a → y ≡ a → x ≡ y
  same p q = p ∙ sym q

  pub determined : Determined
  determined = record {
    new = λ conv x y p q. same p.answer q.answer;
    new_stream = λ conv x y p q. same p.answer q.answer;
    move_buf = λ x y p q. same p.is q.is;
    recv = λ buf x y p q. same p.is q.is;
    peeksize = λ x y p q. same p.is q.is;
    send = λ bytes x y p q. same p.is q.is;
    input-conv = λ x y p q. same p q;
    waiting_conv = λ x y p q. same p q;
    set-conv = λ conv x y p q. same p q;
    conv = λ x y p q. same p q;
    input = λ datagram x y p q. same p.is q.is;
    check = λ current x y p q. same p.is q.is;
    set-mtu = λ mtu x y p q. same p.outcome q.outcome;
    mtu = λ x y p q. same p q;
    set-interval = λ interval x y p q. same p q;
    set-nodelay = λ nodelay interval resend nc x y p q. same p q;
    set_wndsize = λ sndwnd rcvwnd x y p q. same p.is q.is;
    snd_wnd = λ x y p q. same p q;
    rcv_wnd = λ x y p q. same p q;
    wait_snd = λ x y p q. same p q;
    rmt_wnd = λ x y p q. same p q;
    set-rx-minrto = λ rto x y p q. same p q;
    set-fast-resend = λ fr x y p q. same p q;
    header_len = λ x y p q. same p q;
    is_stream = λ x y p q. same p q;
    mss = λ x y p q. same p q;
    set-maximum-resend-times = λ times x y p q. same p q;
    is_dead_link = λ x y p q. same p q;
    flush_ack = λ w x y p q. same p.is q.is;
    flush = λ w x y p q. same p.is q.is;
    update = λ w current x y p q. same p.is q.is;
    get_conv = λ buf x y p q. same p.answer q.answer;
    get_sn = λ buf x y p q. same p.answer q.answer;
    put_conv = λ buf conv r s after then p q. (same p.answer q.answer, same p.bytes q.bytes);
  }
