-- One segment of a datagram: what 01's Input does with it, on the block and on every number and byte of the lent memory.
-- "Per segment 2, then 3, then 4"; "If waiting for a conv, a differing conv is adopted and waiting ends, before len and cmd are looked at. Then
-- rmt_wnd = wnd; send-buffer segments are dropped ..; snd_una = front number, or snd_nxt", and Push, Ack, Ask and Tell. Assumes nothing.
use Rattle.std.specs.Prelude.{ℕ, ◌+◌, ◌-◌, ◌≡◌, Bool, false, not, ◌&&◌, List, length, eqb, ltb, Option, Some, Result, Ok, Err}
use Rattle.serial.specs.Branch.{pick}
use Rattle.wire.specs.declared.Header.{Header}
use Rattle.wire.specs.declared.UnsupportedCmd.{UnsupportedCmd as Unsupported}
use Rattle.wire.specs.declared.Kind.{Kind}
use Rattle.wire.specs.declared.Kind.TheVariants.{Push, Ack, Ask, Tell}
use Rattle.wire.specs.Header.{header_at}
use Rattle.wire.specs.Commands.{command_of}
use Rattle.estimator.specs.Estimate.{acked}
use Rattle.ring.specs.Lists.{Lists}
use Rattle.ring.specs.Records.{part}
use Rattle.snd_ring.specs.Store.{Store}
use Rattle.block.specs.declared.congestion.Congestion.{Congestion}
use Rattle.block.specs.declared.Kcp.{Kcp}
use Rattle.block.specs.declared.refusal.Refusal.{Refusal}
use Rattle.block.specs.declared.refusal.Refusal.TheVariants.{ConvInconsistent, InvalidSegmentDataSize, UnsupportedCmd}
use Rattle.block.specs.Parts.{with_settings, with_conv, with_input_conv, with_congestion, with_sender, with_receiver, with_ack_list, with_estimator, with_probe}
use Rattle.receiving.specs.Rules.{Segment}
use Rattle.receive.specs.Memory.{full_at, push_at, acks_at, list_at, skips_at, with_tell}
use Rattle.sending.specs.declared.Ack.{Ack as AckSeen}
use Rattle.sending.specs.Rules.{later}
use Rattle.transmit.specs.Memory.{una_at, ack_at}

-- ---- the verdict, by numbers alone; `left` are the bytes behind the header

-- "If waiting for a conv, a differing conv is adopted and waiting ends": an equal one leaves the waiting on
unfoldable pub adopts : ℕ → Bool → ℕ → Bool
adopts own waiting met = waiting && not (eqb met own)

-- "2 | segment conv differs, not waiting"
unfoldable pub differs : ℕ → Bool → ℕ → Bool
differs own waiting met = not waiting && not (eqb met own)

-- "4 | cmd not 81 to 84"
abbrev pub of_command : Result Kind Unsupported → Result Kind Refusal
of_command (Ok kind) = Ok kind
of_command (Err e) = Err (UnsupportedCmd e.cmd)

-- "3 | len exceeds bytes left"
unfoldable pub verdict_of : ℕ → Bool → Header → ℕ → Result Kind Refusal
verdict_of own waiting h left =
    pick (differs own waiting h.conv) (Err (ConvInconsistent own h.conv))
    (pick (ltb left h.len) (Err (InvalidSegmentDataSize h.len left)) (of_command (command_of h.cmd)))

-- ---- the block, what the acks of the datagram gave, how many of its pushes were skipped, and the lent memory

pub record Met : Type 0 where
  pub block : Kcp
  pub latest : Option AckSeen
  pub skipped : ℕ
  pub rcv : Lists
  pub acks : List ℕ
  pub snd : Store

abbrev pub with_block : Met → Kcp → Met
with_block m k = record { block = k; latest = m.latest; skipped = m.skipped; rcv = m.rcv; acks = m.acks; snd = m.snd }

-- "a differing conv is adopted and waiting ends"
unfoldable pub adopted : ℕ → Kcp → Kcp
adopted met k = pick (adopts k.settings.conv k.settings.input_conv met) (with_settings k (with_input_conv (with_conv k.settings met) false)) k

abbrev pub with_rmt_wnd : Congestion → ℕ → Congestion
with_rmt_wnd c x = record { snd_wnd = c.snd_wnd; rmt_wnd = x; cwnd = c.cwnd; ssthresh = c.ssthresh; incr = c.incr }

-- "Then rmt_wnd = wnd; send-buffer segments are dropped from the front while timediff(una, sn) > 0; snd_una = front number, or snd_nxt"
unfoldable pub begun : Header → Kcp → Store → Kcp
begun h k snd = with_sender (with_congestion k (with_rmt_wnd k.congestion h.wnd)) (una_at h.una k.sender snd)

abbrev pub push_of : Header → List ℕ → Segment
push_of h payload = record { sn = h.sn; frg = h.frg; payload = payload }

-- "Push": what of it is skipped, acknowledged, taken and moved is receive's
unfoldable pub pushed_at : Segment → ℕ → Met → Met
pushed_at s ts m =
    let k = m.block in
    let full = full_at k.acklist.acks m.acks in
    let x = push_at full k.receiver m.rcv s in
    record {
      block = with_ack_list (with_receiver k x.receiver) (record { acks = acks_at full k.receiver s k.acklist.acks; waiting = k.acklist.waiting });
      latest = m.latest;
      skipped = m.skipped + skips_at full k.receiver s;
      rcv = x.lent;
      acks = list_at full k.receiver s ts k.acklist.acks m.acks;
      snd = m.snd;
    }

-- "Ack": the time is measured, the segment removed, snd_una set anew, and max_ack and latest_ts kept
unfoldable pub acked_at : Header → Met → Met
acked_at h m =
    let k = m.block in
    let x = ack_at h.sn k.sender m.snd in
    record {
      block = with_sender (with_estimator k (acked k.estimator k.clock.current h.ts k.clock.interval)) x.sender;
      latest = Some (later m.latest (record { sn = h.sn; ts = h.ts }));
      skipped = m.skipped;
      rcv = m.rcv;
      acks = m.acks;
      snd = x.store;
    }

-- "**Ask** sets the tell bit"
abbrev pub asked : Kcp → Kcp
asked k = with_probe k (with_tell k.probe)

-- by its kind; "tell does nothing"
unfoldable pub effect_at : Kind → Header → List ℕ → Met → Met
effect_at Push h payload m = pushed_at (push_of h payload) h.ts m
effect_at Ack h payload m = acked_at h m
effect_at Ask h payload m = with_block m (asked m.block)
effect_at Tell h payload m = m

-- ---- the segment at byte `at` of the datagram s: what is met behind it, and where the next one begins, or why it is refused

pub data End : Type 0 where
  through : ℕ → End
  stopped : Refusal → End

pub record Walked : Type 0 where
  pub met : Met
  pub end : End

abbrev pub payload_at : List ℕ → ℕ → ℕ → List ℕ
payload_at s at len = part s (at + 24) len

-- a refused segment leaves "earlier effects, adopted conv"
unfoldable pub act_at : List ℕ → ℕ → Header → Met → Result Kind Refusal → Walked
act_at s at h m (Ok kind) =
    let k = adopted h.conv m.block in
    record { met = effect_at kind h (payload_at s at h.len) (with_block m (begun h k m.snd)); end = through (at + 24 + h.len) }
act_at s at h m (Err why) = record { met = with_block m (adopted h.conv m.block); end = stopped why }

unfoldable pub segment_at : List ℕ → ℕ → Met → Walked
segment_at s at m =
    let h = header_at s at in
    act_at s at h m (verdict_of m.block.settings.conv m.block.settings.input_conv h (length s - at - 24))

-- ---- what the code answers of a segment

abbrev pub answer_of : End → Result ℕ Refusal
answer_of (through n) = Ok n
answer_of (stopped why) = Err why

pub record SegmentAs (s : List ℕ) (at : ℕ) (m : Met) (m' : Met) (answer : Result ℕ Refusal) : Type 0 where
  pub met : m' ≡ (segment_at s at m).met
  pub answered : answer ≡ answer_of (segment_at s at m).end
