-- `output::flush_write` meets its contract: the front, and then the rear. Assumes nothing.
use native.Mathlib.Omega.{arith}
use Rattle.ring.specs.Lists.{lists}
use Rattle.snd_ring.specs.Store.{store_of}
use Rattle.output.proofs.Whole.{front_fits, rear-fits, whole_left}
use Rattle.output.proofs.flush_write.Goals as goal

pub front_put-front-requires : goal.front_put-front-requires
front_put-front-requires c =
    let a = c.args in
    let e = c.requires.plan_value in
    let m = store_of 8 (lists a.records.now a.room.now) in
    let wide = c.requires.ack_list_fits.waiting in
    let full = c.requires.waiting_len in
    let f = front_fits a.block m a.acks.now a.waiting.now (omega arith) c.requires.flush_fits in
    record {
      mtu_bound = c.requires.settings_fit.mtu.high;
      n_in_bounds = c.requires.acks_in_bounds;
      n_bound = c.requires.ack_list_fits.acks;
      waiting_len = full;
      held_bound = wide;
      n_in_bounds_2 = rw e f.0;
      n_in_bounds_3 = rw e f.1;
    }

pub rear_put-requires : goal.rear_put-requires
rear_put-requires c =
    let a = c.args in
    let e = c.requires.plan_value in
    let m = store_of 8 (lists a.records.now a.room.now) in
    let wide = c.requires.ack_list_fits.waiting in
    let full = c.requires.waiting_len in
    let d = c.front_put-front.ensures in
    record {
      plan_value = e;
      mtu_bound = c.requires.settings_fit.mtu.high;
      sound = c.requires.sound;
      rear_fits = rear-fits a.block m a.acks.now a.waiting.now (omega arith) c.requires.flush_fits (rw e at d.value) (rw e at d.out_after) (rw e at d.lengths_after) c.requires.settings_fit.mtu.high wide;
    }

pub returns : goal.returns
returns c =
    let a = c.args in
    let e = c.requires.plan_value in
    let m = store_of 8 (lists a.records.now a.room.now) in
    let wide = c.requires.ack_list_fits.waiting in
    let full = c.requires.waiting_len in
    let d = c.front_put-front.ensures in
    whole_left a.block m a.acks.now a.waiting.now (omega arith) c.requires.flush_fits (rw e at d.value) (rw e at d.out_after) (rw e at d.lengths_after) c.rear_put.ensures
