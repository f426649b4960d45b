-- `due::fresh_sizes` meets its contract. Assumes nothing.
use native.Mathlib.Omega.{arith}
use Prim.Native.Nat.{◌-◌}
use Rattle.ring.specs.Lists.{lists}
use Rattle.snd_ring.specs.Store.{store_of}
use Rattle.flight.specs.Places.{run_of}
use Rattle.flight.proofs.Steps.{runs_by}
use Rattle.due.proofs.Sizing.{fresh_both, rung-numbers, waiting-marks}
use Rattle.due.proofs.fresh_sizes.Goals as goal

pub runs_of-runs-requires : goal.runs_of-runs-requires
runs_of-runs-requires c =
    let w = rung-numbers c.requires.rung c.slots_in-slots.ensures in
    record {
      slots_bound = w.0;
      start_lt_slots = w.1;
      n_bound = omega arith;
    }

pub fresh_run-p-requires : goal.fresh_run-p-requires
fresh_run-p-requires c =
    let p = c.requires in
    let a = c.args in
    let e = c.slots_in-slots.ensures in
    let w = rung-numbers p.rung e in
    let r = c.runs_of-runs.ensures in
    let high = r.high in
    record {
      from_le_to = r.low;
      to_in_bounds = omega arith;
      to_bound = omega arith;
      each = (waiting-marks p.rung e a.k p.k_le_unsent r).0;
      used_bound = omega arith;
      count_bound = omega arith;
    }

pub fresh_run-requires : goal.fresh_run-requires
fresh_run-requires c =
    let p = c.requires in
    let a = c.args in
    let e = c.slots_in-slots.ensures in
    let w = rung-numbers p.rung e in
    let r = c.runs_of-runs.ensures in
    let g = c.fresh_run-p.ensures.used_bound_2 in
    let low = r.low in
    let high = r.high in
    let behind = r.behind in
    record {
      from_le_to = omega arith;
      to_in_bounds = omega arith;
      to_bound = omega arith;
      each = (waiting-marks p.rung e a.k p.k_le_unsent r).1;
      used_bound = omega arith;
      count_bound = omega arith;
    }

pub returns : goal.returns
returns c =
    let a = c.args in
    let r = c.runs_of-runs.result in
    let u = c.runs_of-runs.ensures in
    let low = u.low in
    let sum = u.sum in
    let g = c.fresh_run-p.ensures.used_bound_2 in
    let h = c.fresh_run.ensures.used_bound_2 in
    record {
      by_index = λ room. rw (runs_by a.records.now c.slots_in-slots.ensures room a.ring.start a.ring.reach a.k c.runs_of-runs.ensures)
          (fresh_both a.mtu (store_of 8 (lists a.records.now room)) (run_of r.from (r.to - r.from)) (run_of 0 (r.rest - 0)) a.packer (c.fresh_run-p.ensures.by_index room) (c.fresh_run.ensures.by_index room));
      used_bound_2 = (omega arith, omega arith);
    }
