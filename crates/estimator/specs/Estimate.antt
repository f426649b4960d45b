-- "If timediff(current, ts) ≥ 0, the estimator keeps its smoothed time, its spread and its timeout up to date: if srtt is 0, srtt = rtt
-- and rttval = rtt/2; else rttval = (3·rttval + |rtt − srtt|)/4, srtt = (7·srtt + rtt)/8, at least 1.
-- rto = srtt + max(interval, 4·rttval), raised to rx_minrto, then cut to 60,000."
-- Sums and products of 32 bits are taken modulo 2^32; minrto is rx_minrto, and rtt is current − ts. Assumes nothing.
use Rattle.std.specs.Prelude.{ℕ, ◌+◌, ◌-◌, ◌/◌, min, max, eqb, pos}
use Rattle.std.specs.Int.Signed.{le_z}
use Rattle.serial.specs.Branch.{pick}
use Rattle.serial.specs.Wrap.{add32, sub32, mul32, timediff}
use Rattle.estimator.specs.declared.Estimator.{Estimator}

-- "rx_rto 200, rx_minrto 100, .. all else 0"
abbrev pub fresh : Estimator
fresh = record { srtt = 0; rttval = 0; rto = 200; minrto = 100 }

-- "|rtt − srtt|", a true difference
abbrev pub apart : ℕ → ℕ → ℕ
apart a b = (a - b) + (b - a)

-- "rto = srtt + max(interval, 4·rttval), raised to rx_minrto, then cut to 60,000"
abbrev pub rto_of : ℕ → ℕ → ℕ → ℕ → ℕ
rto_of minrto interval srtt rttval = min (max minrto (add32 srtt (max interval (mul32 4 rttval)))) 60000

-- the estimator with this smoothed time and this spread, and the timeout that follows
unfoldable pub timed : Estimator → ℕ → ℕ → ℕ → Estimator
timed e interval srtt rttval =
    record { srtt = srtt; rttval = rttval; rto = rto_of e.minrto interval srtt rttval; minrto = e.minrto }

-- "if srtt is 0, srtt = rtt and rttval = rtt/2; else rttval = (3·rttval + |rtt − srtt|)/4, srtt = (7·srtt + rtt)/8, at least 1"
unfoldable pub measured : Estimator → ℕ → ℕ → Estimator
measured e rtt interval =
    pick (eqb e.srtt 0)
    (timed e interval rtt (rtt / 2))
    (timed e interval (max 1 (add32 (mul32 7 e.srtt) rtt / 8)) (add32 (mul32 3 e.rttval) (apart rtt e.srtt) / 4))

-- "If timediff(current, ts) ≥ 0", an ack's time is measured
unfoldable pub acked : Estimator → ℕ → ℕ → ℕ → Estimator
acked e current ts interval = pick (le_z (pos 0) (timediff current ts)) (measured e (sub32 current ts) interval) e
