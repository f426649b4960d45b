-- `output::rear_put` meets its contract: launched, written, and what waits then sent off. Assumes nothing.
use Rattle.output.proofs.Rears.{launch-asks, write-sound, write-roomy, finish-asks, rear_left}
use Rattle.output.proofs.rear_put.Goals as goal

pub launch-sender-requires : goal.launch-sender-requires
launch-sender-requires c =
    let x = launch-asks c.args.block c.args.records.now c.args.room.now c.requires.sound in
    record {
      lies = x.0;
      k_le_unsent = rw c.requires.plan_value x.1;
    }

pub due_write-written-requires : goal.due_write-written-requires
due_write-written-requires c =
    let a = c.args in
    let l = rw c.requires.plan_value at (c.launch-sender.ensures a.room.now) in
    record {
      sound = write-sound a.block a.records.now a.room.now c.requires.sound l;
      mtu_bound = c.requires.mtu_bound;
      roomy = rw c.requires.plan_value (write-roomy a.block a.records.now a.room.now c.requires.sound l c.requires.rear_fits);
    }

pub finish-requires : goal.finish-requires
finish-requires c =
    let a = c.args in
    let l = rw c.requires.plan_value at (c.launch-sender.ensures a.room.now) in
    let f = finish-asks a.block a.records.now a.room.now c.requires.sound l c.requires.rear_fits c.requires.mtu_bound (rw (c.requires.plan_value, c.uncounted.ensures) at c.due_write-written.ensures) in
    record {
      used_bound = f.0;
      used_bound_2 = f.1;
      used_in_bounds = f.2;
    }

pub returns : goal.returns
returns c =
    let a = c.args in
    let l = rw c.requires.plan_value at (c.launch-sender.ensures a.room.now) in
    rear_left a.block a.records.now a.room.now c.requires.sound l c.requires.rear_fits c.requires.mtu_bound (rw (c.requires.plan_value, c.uncounted.ensures) at c.due_write-written.ensures) c.finish.ensures.lengths_after
