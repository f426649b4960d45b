-- `due::write_run` meets its contract. Assumes nothing.
use native.Mathlib.Omega.{arith}
use mathlib.Core.Path.{refl, sym, ◌∙◌}
use Rattle.ring.specs.Lists.{lists}
use Rattle.snd_ring.specs.Store.{store_of}
use Rattle.due.specs.Pass.{pass}
use Rattle.due.proofs.Writing.{run-first, run_fits, run_same, run-done}
use Rattle.due.proofs.write_run.Goals as goal

pub loop-q-init : goal.loop-q-init
loop-q-init c =
    (c.requires.fits, refl)

pub write_at-w-requires : goal.write_at-w-requires
write_at-w-requires c =
    let a = c.args in
    let l = c.loop-q in
    record {
      q_lt_slots = omega arith;
      fits = run-first a.way.told a.way.pace a.way.dead_link a.way.mtu c.requires.mtu_bound l.q a.to c.loop-q-test.true (pass (store_of 8 (lists l.records a.room.now)) l.out l.lengths l.w.packer l.w.tally) l.invariant.0;
    }

pub loop-q-preserved : goal.loop-q-preserved
loop-q-preserved c =
    let a = c.args in
    let l = c.loop-q in
    let h = c.loop-q-test.true in
    let e = c.write_at-w.ensures in (
      run_fits a.way.told a.way.pace a.way.dead_link a.way.mtu c.requires.mtu_bound l.q a.to h (pass (store_of 8 (lists l.records a.room.now)) l.out l.lengths l.w.packer l.w.tally) l.invariant.0 e,
      run_same a.way.told a.way.pace a.way.dead_link a.way.mtu c.requires.mtu_bound l.q a.to h (pass (store_of 8 (lists l.records a.room.now)) l.out l.lengths l.w.packer l.w.tally) l.invariant.0 e ∙ l.invariant.1,
    )

pub returns : goal.returns
returns c =
    let a = c.args in
    let l = c.loop-q in
    sym (run-done a.way.told a.way.pace a.way.dead_link a.way.mtu c.requires.mtu_bound l.q a.to (omega arith) (pass (store_of 8 (lists l.records a.room.now)) l.out l.lengths l.w.packer l.w.tally)) ∙ l.invariant.1
