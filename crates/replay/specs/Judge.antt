-- The judge: each step of the recording is made from what the one before left, and its answer and the block's numbers afterwards are held to what the Rust
-- gave. Assumes nothing.
use Rattle.std.specs.Prelude.{ℕ, zero, suc, ◌+◌, ◌/◌, ◌^◌, Bool, ◌&&◌, List, [], ◌∷◌, eqb, length, Some, None}
use Rattle.std.specs.Option.{option_or}
use Rattle.serial.specs.Branch.{pick}
use Rattle.ring.specs.Lists.{Lists}
use Rattle.ring.specs.Counting.{count}
use Rattle.block.specs.declared.Kcp.{Kcp}
use Rattle.receive.specs.Fits.{receive_fits}
use Rattle.history.specs.Calls.{Memory}
use Rattle.recorded.specs.declared.rows.Row.{Row}
use Rattle.recorded.specs.declared.answers.Answer.{Answer}
use Rattle.replay.specs.declared.judge.Tally.{Tally}
use Rattle.recorded.specs.Sums.{sum_of, bit, low32}
use Rattle.recorded.specs.Rows.{row_at, next_at, handed_at, whole_at}
use Rattle.recorded.specs.Calls.{Played, play_of}

-- ---- "every number of the block, under the Rust's names"

-- the segments held are the words in reach that are a segment's; memory that is not well formed holds a number that no step has
unfoldable pub held_in : Kcp → Lists → ℕ
held_in k l =
    pick (receive_fits k l) (count 65536 l.records k.receiver.ring.start k.receiver.ring.queued k.receiver.ring.reach) 4294967295

unfoldable pub numbers_of : Kcp → ℕ → List ℕ
numbers_of k held =
    k.settings.conv ∷ k.settings.mtu ∷ k.settings.mss ∷ bit k.sender.dead ∷ k.sender.snd_una ∷ k.sender.snd_nxt ∷ k.receiver.rcv_nxt
    ∷ k.congestion.ssthresh ∷ k.estimator.rttval ∷ k.estimator.srtt ∷ k.estimator.rto ∷ k.estimator.minrto ∷ k.congestion.snd_wnd
    ∷ k.receiver.rcv_wnd ∷ k.congestion.rmt_wnd ∷ k.congestion.cwnd ∷ k.probe.bits ∷ k.clock.current ∷ k.clock.interval ∷ k.clock.ts_flush
    ∷ k.sender.xmit ∷ bit k.settings.nodelay ∷ bit k.clock.updated ∷ k.probe.ts_probe ∷ k.probe.probe_wait ∷ k.settings.dead_link
    ∷ low32 k.congestion.incr ∷ k.congestion.incr / 2 ^ 32 ∷ k.settings.fastresend ∷ k.settings.fastlimit ∷ bit k.settings.nocwnd
    ∷ bit k.settings.stream ∷ bit k.settings.input_conv ∷ k.sender.ring.unsent ∷ k.receiver.ring.queued ∷ k.sender.ring.flying ∷ held
    ∷ k.acklist.acks ∷ k.acklist.waiting ∷ []

-- ---- a step

-- what the Rust answered
abbrev pub answer_of : Row → Answer
answer_of r = record { refusal = r.refusal; first = r.first; second = r.second; sum = r.sum }

-- all five numbers of the Rust's are the same
unfoldable pub same : Answer → ℕ → Row → Bool
same a numbers r =
    eqb a.refusal r.refusal && (eqb a.first r.first && (eqb a.second r.second && (eqb a.sum r.sum && eqb numbers r.numbers)))

unfoldable pub agrees : Answer → Kcp → Lists → Row → Bool
agrees a k rcv r = same a (sum_of (numbers_of k (held_in k rcv))) r

abbrev pub agreed : Played → Row → Bool
agreed p r = agrees p.answer p.memory.block p.memory.rcv r

-- one step more; the first that did not agree stays
unfoldable pub counted : Tally → Bool → Tally
counted t ok = record {
  steps = t.steps + 1;
  agreed = pick ok (t.agreed + 1) t.agreed;
  first = pick ok t.first (option_or t.first (Some (t.steps + 1)));
}

-- ---- the recording

abbrev pub none : Tally
none = record { steps = 0; agreed = 0; first = None }

-- the steps from `at` on while whole ones stand there, with this memory and this tally; each takes one of `fuel`
unfoldable pub judged_from : List ℕ → ℕ → ℕ → Memory → Tally → Tally
judged_from s zero at m t = t
judged_from s (suc fuel) at m t =
    let p = play_of (row_at s at) (handed_at s at) m in
    pick (whole_at s at) (judged_from s fuel (next_at s at) p.memory (counted t (agreed p (row_at s at)))) t

-- all of it, from this memory on
unfoldable pub judged : List ℕ → Memory → Tally
judged s m = judged_from s (length s) 0 m none
