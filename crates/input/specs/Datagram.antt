-- One datagram: "Segments are read while 24 bytes or more remain; a shorter tail is ignored. The answer is the bytes consumed and the number of
-- skipped pushes (0 to 62), the latter also beside a refusal." "An input stops at the first refused segment, and then the next two steps don't
-- run. (a) .. (b) .." For a datagram of 24 to 1,500 bytes and memory that is well formed; 15, 11 and 1 are the call's (kcp_input/specs/Input).
-- Assumes nothing.
use Rattle.std.specs.Prelude.{ℕ, zero, suc, ◌+◌, ◌-◌, ◌≡◌, Bool, false, List, [], ◌∷◌, length, leb, None, Result, Ok, Err}
use Rattle.serial.specs.Branch.{pick}
use Rattle.serial.specs.Wrap.{after}
use Rattle.wire.specs.declared.Header.{Header}
use Rattle.wire.specs.Header.{header_at}
use Rattle.ring.specs.Lists.{Lists}
use Rattle.snd_ring.specs.Store.{Store}
use Rattle.block.specs.declared.Kcp.{Kcp}
use Rattle.block.specs.declared.congestion.Congestion.{Congestion}
use Rattle.block.specs.Refusals.{number_of, values_of}
use Rattle.block.specs.Parts.{with_congestion}
use Rattle.sending.specs.declared.Window.{Window}
use Rattle.sending.specs.Rules.{grown}
use Rattle.transmit.specs.Memory.{fastack_at}
use Rattle.input.specs.Segment.{Met, End, through, stopped, Walked, adopts, verdict_of, segment_at, answer_of}
use Rattle.block.specs.declared.refusal.Refusal.{Refusal}
use Rattle.wire.specs.declared.Kind.{Kind}

-- ---- the walk

-- what a segment came to, and then what `go` makes of it, unless it was refused
unfoldable pub onward : (ℕ → Met → Walked) → Walked → Walked
onward go w = carry_on w.end
  where
    carry_on : End → Walked
    carry_on (through next) = go next w.met
    carry_on (stopped why) = record { met = w.met; end = stopped why }

-- "Segments are read while 24 bytes or more remain"; each takes one of `fuel`
unfoldable pub walk_from : List ℕ → ℕ → ℕ → Met → Walked
walk_from s zero at m = record { met = m; end = through at }
walk_from s (suc fuel) at m =
    pick (leb (at + 24) (length s)) (onward (λ next n. walk_from s fuel next n) (segment_at s at m)) (record { met = m; end = through at })

unfoldable pub walk_of : List ℕ → Met → Walked
walk_of s m = walk_from s (length s) 0 m

pub record WalkedAs (s : List ℕ) (m : Met) (m' : Met) (answer : Result ℕ Refusal) : Type 0 where
  pub met : m' ≡ (walk_of s m).met
  pub answered : answer ≡ answer_of (walk_of s m).end

-- ---- where it ends, by the datagram and the block's conv alone

-- the conv and the waiting behind a segment that was met
abbrev pub conv_after : ℕ → Bool → ℕ → ℕ
conv_after own waiting met = pick (adopts own waiting met) met own

abbrev pub wait_after : ℕ → Bool → ℕ → Bool
wait_after own waiting met = pick (adopts own waiting met) false waiting

unfoldable pub end_by : (ℕ → End) → ℕ → Header → Result Kind Refusal → End
end_by go at h (Ok kind) = go (at + 24 + h.len)
end_by go at h (Err why) = stopped why

unfoldable pub end_from : List ℕ → ℕ → ℕ → ℕ → Bool → End
end_from s zero at own waiting = through at
end_from s (suc fuel) at own waiting =
    let h = header_at s at in
    pick (leb (at + 24) (length s))
    (end_by (λ next. end_from s fuel next (conv_after own waiting h.conv) (wait_after own waiting h.conv)) at h (verdict_of own waiting h (length s - at - 24)))
    (through at)

unfoldable pub end_of : List ℕ → ℕ → Bool → End
end_of s own waiting = end_from s (length s) 0 own waiting

-- 01's number and values of it
abbrev pub number_of_end : End → ℕ
number_of_end (through n) = 0
number_of_end (stopped why) = number_of why

abbrev pub values_of_end : End → List ℕ
values_of_end (through n) = n ∷ []
values_of_end (stopped why) = values_of why

-- ---- behind the segments

abbrev pub with_window : Congestion → Window → Congestion
with_window c w = record { snd_wnd = c.snd_wnd; rmt_wnd = c.rmt_wnd; cwnd = w.cwnd; ssthresh = c.ssthresh; incr = w.incr }

-- "(b) If snd_una moved forward and cwnd < rmt_wnd, the window grows"
unfoldable pub grown_by : ℕ → ℕ → ℕ → Congestion → Congestion
grown_by mss before una c =
    pick (after una before) (with_window c (grown mss c.ssthresh c.rmt_wnd (record { cwnd = c.cwnd; incr = c.incr }))) c

-- what input leaves: the block, its answer, the skipped pushes and the lent memory
pub record ReadOut : Type 0 where
  pub block : Kcp
  pub answer : Result ℕ Refusal
  pub skipped : ℕ
  pub rcv : Lists
  pub acks : List ℕ
  pub snd : Store

unfoldable pub finished : Kcp → Met → End → ReadOut
finished k m (through count) = record {
  block = with_congestion m.block (grown_by k.settings.mss k.sender.snd_una m.block.sender.snd_una m.block.congestion);
  answer = Ok count;
  skipped = m.skipped;
  rcv = m.rcv;
  acks = m.acks;
  snd = fastack_at m.latest m.block.sender m.snd;
}
finished k m (stopped why) = record { block = m.block; answer = Err why; skipped = m.skipped; rcv = m.rcv; acks = m.acks; snd = m.snd }

-- no ack is seen yet, and no push skipped
abbrev pub met_of : Kcp → Lists → List ℕ → Store → Met
met_of k rcv acks snd = record { block = k; latest = None; skipped = 0; rcv = rcv; acks = acks; snd = snd }

unfoldable pub read_at : Kcp → Lists → List ℕ → Store → List ℕ → ReadOut
read_at k rcv acks snd s =
    let w = walk_of s (met_of k rcv acks snd) in
    finished k w.met w.end
