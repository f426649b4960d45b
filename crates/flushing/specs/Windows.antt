-- The windows of a flush, in the steps of `wnd_unused` and `flush`: the wnd that every header carries, how many waiting segments leave the queue,
-- and what resends leave of ssthresh, cwnd and incr. Assumes nothing.
use Rattle.std.specs.Prelude.{ℕ, zero, suc, ◌-◌, ◌/◌, ◌^◌, min, max, Bool, not, ltb, leb}
use Rattle.serial.specs.Branch.{pick}
use Rattle.serial.specs.Wrap.{add32, add16, mul64, low16, not_before}
use Rattle.block.specs.declared.congestion.Congestion.{Congestion}

-- `wnd_unused`: "if self.rcv_queue.len() < self.rcv_wnd .. { self.rcv_wnd - self.rcv_queue.len() .. } else { 0 }"; a difference ends at 0
abbrev pub wnd_unused : ℕ → ℕ → ℕ
wnd_unused rcv_wnd queued = rcv_wnd - queued

-- "let mut cwnd = cmp::min(self.snd_wnd, self.rmt_wnd); if !self.nocwnd { cwnd = cmp::min(self.cwnd, cwnd); }"
unfoldable pub window_of : Bool → Congestion → ℕ
window_of nocwnd c = pick nocwnd (min c.snd_wnd c.rmt_wnd) (min c.cwnd (min c.snd_wnd c.rmt_wnd))

-- ---- "while timediff(self.snd_nxt, self.snd_una + cwnd as u32) < 0 { match self.snd_queue.pop_front() { Some(..) => .. self.snd_nxt += 1 .. None => break } }"

-- how many of `waiting` segments leave the queue, the first of them numbered `next`; limit is snd_una + cwnd
unfoldable pub leaving : ℕ → ℕ → ℕ → ℕ
leaving limit next zero = 0
leaving limit next (suc waiting) = pick (not (not_before next limit)) (suc (leaving limit (add32 next 1) waiting)) 0

-- the same by the numbers that lie between: none, or more than 2^31, let none leave. Law: `leaving_is` of proofs/Leaving
unfoldable pub leaving_between : ℕ → ℕ → ℕ
leaving_between between waiting = pick (leb between (2 ^ 31)) (min between waiting) 0

-- ---- the window of congestion

-- "let resent = if self.fastresend > 0 { self.fastresend } else { u32::max_value() }"
unfoldable pub resent_of : ℕ → ℕ
resent_of fastresend = pick (ltb 0 fastresend) fastresend (2 ^ 32 - 1)

-- "if self.ssthresh < KCP_THRESH_MIN { self.ssthresh = KCP_THRESH_MIN; }"
abbrev pub halved : ℕ → ℕ
halved n = max (n / 2) 2

abbrev pub with_cwnd : Congestion → ℕ → ℕ → ℕ → Congestion
with_cwnd c ssthresh cwnd incr =
    record { snd_wnd = c.snd_wnd; rmt_wnd = c.rmt_wnd; cwnd = cwnd; ssthresh = ssthresh; incr = incr }

-- "if change > 0 { let inflight = self.snd_nxt - self.snd_una; self.ssthresh = inflight as u16 / 2; .. self.cwnd = self.ssthresh + resent as u16;
-- self.incr = self.cwnd as usize * self.mss; }"
unfoldable pub resent_fast : ℕ → ℕ → ℕ → Congestion → Congestion
resent_fast mss inflight resent c =
    let ssthresh = halved (low16 inflight) in
    let cwnd = add16 ssthresh (low16 resent) in
    with_cwnd c ssthresh cwnd (mul64 cwnd mss)

-- "if lost { self.ssthresh = cwnd / 2; .. self.cwnd = 1; self.incr = self.mss; }", where cwnd is the window of this flush
unfoldable pub timed_out : ℕ → ℕ → Congestion → Congestion
timed_out mss window c = with_cwnd c (halved window) 1 mss

-- "if self.cwnd < 1 { self.cwnd = 1; self.incr = self.mss; }"
unfoldable pub at_least_one : ℕ → Congestion → Congestion
at_least_one mss c = pick (ltb c.cwnd 1) (with_cwnd c c.ssthresh 1 mss) c

-- the three, in this order: whether a segment was resent fast, and whether one timed out
unfoldable pub congestion_after : ℕ → ℕ → ℕ → ℕ → Bool → Bool → Congestion → Congestion
congestion_after mss inflight resent window change lost c =
    let d = pick change (resent_fast mss inflight resent c) c in
    at_least_one mss (pick lost (timed_out mss window d) d)
