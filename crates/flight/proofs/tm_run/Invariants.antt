-- `flight::tm_run` meets its contract. Assumes nothing.
use Prim.Native.Nat.{ℕ, ◌-◌}
use mathlib.Core.Path.{◌≡◌}
use mathlib.Core.List.{List}
use Rattle.ring.specs.Lists.{lists}
use Rattle.snd_ring.specs.Store.{store_of}
use Rattle.flushing.specs.Clocks.{tm_packet}
use Rattle.flight.specs.Places.{run_of}
use Rattle.flight.specs.Memory.{resendts_over, reckoned_of}
use Rattle.flight.proofs.tm_run.Given as goal

abbrev pub invariant-loop-q : goal.invariant-loop-q
invariant-loop-q l =
    (l.w ≡ reckoned_of l.current l.w.tm)
    × ((room : List ℕ) → tm_packet l.current (resendts_over (run_of l.q (l.to - l.q)) (store_of 8 (lists l.records room))) l.w.tm ≡ tm_packet l.current (resendts_over (run_of l.from (l.to - l.from)) (store_of 8 (lists l.records room))) l.tm)
