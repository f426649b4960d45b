-- `due::write_run` meets its contract. Assumes nothing.
use Prim.Native.Nat.{◌-◌}
use mathlib.Core.Path.{◌≡◌}
use Rattle.ring.specs.Lists.{lists}
use Rattle.snd_ring.specs.Store.{store_of}
use Rattle.flight.specs.Places.{run_of}
use Rattle.due.specs.Pass.{pass, pass_over, Fits}
use Rattle.due.proofs.write_run.Given as goal

abbrev pub invariant-loop-q : goal.invariant-loop-q
invariant-loop-q l =
    Fits l.way.told l.way.pace l.way.mtu (run_of l.q (l.to - l.q)) (pass (store_of 8 (lists l.records l.room)) l.out l.lengths l.w.packer l.w.tally)
    × (pass_over l.way.told l.way.pace l.way.dead_link l.way.mtu (run_of l.q (l.to - l.q)) (pass (store_of 8 (lists l.records l.room)) l.out l.lengths l.w.packer l.w.tally)
    ≡ pass_over l.way.told l.way.pace l.way.dead_link l.way.mtu (run_of l.from (l.to - l.from)) (pass (store_of 8 (lists l.initial.records l.room)) l.initial.out l.initial.lengths l.initial.w.packer l.initial.w.tally))
