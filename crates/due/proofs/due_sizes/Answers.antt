-- `due::due_sizes` meets its contract. Assumes nothing.
use native.Mathlib.Omega.{arith}
use Rattle.ring.specs.Lists.{lists}
use Rattle.snd_ring.specs.Store.{store_of}
use Rattle.flight.proofs.Steps.{runs_by}
use Rattle.due.proofs.Sizing.{sizes_both, rung-numbers, flight-marks}
use Rattle.due.proofs.due_sizes.Goals as goal

pub runs_of-runs-requires : goal.runs_of-runs-requires
runs_of-runs-requires c =
    let w = rung-numbers c.requires.rung c.slots_in-slots.ensures in
    record {
      slots_bound = w.0;
      start_lt_slots = w.1;
      n_bound = omega arith;
    }

pub size_run-p-requires : goal.size_run-p-requires
size_run-p-requires c =
    let p = c.requires in
    let e = c.slots_in-slots.ensures in
    let w = rung-numbers p.rung e in
    let r = c.runs_of-runs.ensures in
    let high = r.high in
    record {
      from_le_to = r.low;
      to_in_bounds = omega arith;
      to_bound = omega arith;
      each = (flight-marks p.rung e r).0;
      used_bound = omega arith;
      count_bound = omega arith;
    }

pub size_run-requires : goal.size_run-requires
size_run-requires c =
    let p = c.requires in
    let e = c.slots_in-slots.ensures in
    let w = rung-numbers p.rung e in
    let r = c.runs_of-runs.ensures in
    let g = c.size_run-p.ensures.used_bound_2 in
    let low = r.low in
    let high = r.high in
    let behind = r.behind in
    record {
      from_le_to = omega arith;
      to_in_bounds = omega arith;
      to_bound = omega arith;
      each = (flight-marks p.rung e r).1;
      used_bound = omega arith;
      count_bound = omega arith;
    }

pub returns : goal.returns
returns c =
    let a = c.args in
    let u = c.runs_of-runs.ensures in
    let low = u.low in
    let sum = u.sum in
    let g = c.size_run-p.ensures.used_bound_2 in
    let h = c.size_run.ensures.used_bound_2 in
    record {
      by_index = λ room. rw (runs_by a.records.now c.slots_in-slots.ensures room a.ring.start 0 a.ring.reach c.runs_of-runs.ensures)
          (sizes_both a.mtu (store_of 8 (lists a.records.now room)) _ _ a.packer a.pace (c.size_run-p.ensures.by_index room) (c.size_run.ensures.by_index room));
      used_bound_2 = (omega arith, omega arith);
    }
