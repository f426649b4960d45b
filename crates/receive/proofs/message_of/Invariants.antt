-- `receive::message_of` meets its contract: i segments passed, and the rest of the queue is still to be counted. Assumes nothing.
use Prim.Native.Nat.{◌+◌, ◌-◌, ◌*◌, ◌≤◌}
use mathlib.Core.Path.{◌≡◌}
use Rattle.ring.specs.Places.{summed}
use Rattle.rcv_ring.specs.Places.{frg_at, size_at}
use Rattle.rcv_ring.specs.Views.{span}
use Rattle.receiving.specs.Rules.{message}
use Rattle.receive.specs.Memory.{queue_frgs}
use Rattle.receive.proofs.message_of.Given as goal

abbrev pub invariant-loop-i : goal.invariant-loop-i
invariant-loop-i l =
    (l.i ≤ l.ring.queued) × (l.size ≤ 65535 * l.i) × (l.size ≡ summed (size_at l.ring l.records) 0 l.i) × (l.i + message (span (frg_at l.ring l.records) l.i (l.ring.queued - l.i)) ≡ message (queue_frgs l.ring l.records))
