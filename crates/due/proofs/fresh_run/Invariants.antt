-- `due::fresh_run` meets its contract. Assumes nothing.
use Prim.Native.Nat.{ℕ, ◌+◌, ◌-◌, ◌*◌, ◌≤◌, ◌<◌}
use mathlib.Core.Path.{◌≡◌}
use mathlib.Core.List.{List}
use lib.ListN.{get_or}
use Rattle.ring.specs.Lists.{lists}
use Rattle.snd_ring.specs.Store.{store_of}
use Rattle.packing.specs.Packer.{sized}
use Rattle.flight.specs.Places.{run_of, Each}
use Rattle.flight.specs.Memory.{fresh_sizes}
use Rattle.due.proofs.fresh_run.Given as goal

abbrev pub invariant-loop-q : goal.invariant-loop-q
invariant-loop-q l =
    (l.p.start + l.p.used ≤ l.initial.p.start + l.initial.p.used + 1500 * (l.q - l.from)) × (l.p.count ≤ l.initial.p.count + (l.q - l.from))
    × Each (λ (q : ℕ). (0 < get_or l.records q 0) × (get_or l.records q 0 ≤ 1477)) (run_of l.q (l.to - l.q))
    × ((room : List ℕ) → sized l.mtu l.p (fresh_sizes (run_of l.q (l.to - l.q)) (store_of 8 (lists l.records room))) ≡ sized l.mtu l.initial.p (fresh_sizes (run_of l.from (l.to - l.from)) (store_of 8 (lists l.records room))))
