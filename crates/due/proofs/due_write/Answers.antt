-- `due::due_write` meets its contract. Assumes nothing.
use native.Mathlib.Omega.{arith}
use Rattle.due.proofs.Writing.{ring-numbers, first_run, second_run, both_runs}
use Rattle.due.proofs.due_write.Goals as goal

pub runs_of-runs-requires : goal.runs_of-runs-requires
runs_of-runs-requires c =
    let a = c.args in
    let w = ring-numbers a.way.told a.way.pace a.way.dead_link a.way.mtu c.requires.mtu_bound a.ring a.records.now a.room.now a.out.now a.lengths.now a.before.packer a.before.tally c.requires.sound c.requires.roomy c.slots_in-slots.ensures in
    record {
      slots_bound = w.0;
      start_lt_slots = w.1;
      n_bound = omega arith;
    }

pub write_run-w-requires : goal.write_run-w-requires
write_run-w-requires c =
    let a = c.args in
    let e = c.slots_in-slots.ensures in
    let r = c.runs_of-runs.ensures in
    let high = r.high in
    record {
      from_le_to = r.low;
      to_in_bounds = omega arith;
      mtu_bound = c.requires.mtu_bound;
      fits = first_run a.way.told a.way.pace a.way.dead_link a.way.mtu c.requires.mtu_bound a.ring a.records.now a.room.now a.out.now a.lengths.now a.before.packer a.before.tally c.requires.sound c.requires.roomy e r;
    }

pub write_run-requires : goal.write_run-requires
write_run-requires c =
    let a = c.args in
    let e = c.slots_in-slots.ensures in
    let r = c.runs_of-runs.ensures in
    record {
      from_le_to = omega arith;
      to_in_bounds = omega arith;
      mtu_bound = c.requires.mtu_bound;
      fits = second_run a.way.told a.way.pace a.way.dead_link a.way.mtu c.requires.mtu_bound a.ring a.records.now a.room.now a.out.now a.lengths.now a.before.packer a.before.tally c.requires.sound c.requires.roomy e r c.write_run-w.ensures;
    }

pub returns : goal.returns
returns c =
    let a = c.args in
    both_runs a.way.told a.way.pace a.way.dead_link a.way.mtu c.requires.mtu_bound a.ring a.records.now a.room.now a.out.now a.lengths.now a.before.packer a.before.tally c.requires.sound c.requires.roomy c.slots_in-slots.ensures c.runs_of-runs.ensures c.write_run-w.ensures c.write_run.ensures
