-- `rcv_ring::RcvRing::ready` meets its contract: i are held, and the rest is still to be counted. Assumes nothing.
use Rattle.std.proofs.Common.{◌≡◌, ◌+◌, ◌-◌, ◌≤◌}
use Rattle.rcv_ring.specs.Views.{mark_past, leading, ready_of}
use Rattle.rcv_ring.proofs.RcvRing.ready.Given as goal

abbrev pub invariant-loop-i : goal.invariant-loop-i
invariant-loop-i l = (l.most ≤ l.self.reach) × (l.i + leading (mark_past l.self l.records) l.i (l.most - l.i) ≡ ready_of l.self l.records l.left)
