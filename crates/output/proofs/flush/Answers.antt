-- `output::flush` meets its contract: refused by its sizes, or nothing goes out, or written. Assumes nothing.
use native.Mathlib.Omega.{arith}
use mathlib.Core.Path.{refl}
use Rattle.ring.specs.Lists.{lists}
use Rattle.snd_ring.specs.Store.{store_of}
use Rattle.output.proofs.Flushes.{no_bytes, no_lengths, flush_fits, flush-done, flush-idle}
use Rattle.output.proofs.flush.Goals as goal
use Rattle.output.proofs.flush.Goals.{then-out-sizes-via-then-out-sizes, then-out-sizes-via-else-out-sizes+then-lengths-sizes}

pub returns-then-out-sizes : goal.returns-then-out-sizes
returns-then-out-sizes c =
    let a = c.args in
    let m = store_of 8 (lists a.records.now a.room.now) in
    let full = c.requires.waiting_len in
    let most = c.requires.own_numbers.acklist.waiting in
    let few = c.flush_sizes-sizes.ensures.by_index a.room.now in
    rw c.too_small.ensures
    (elim c.then-out-sizes.branch [
      | then-out-sizes-via-then-out-sizes w ↦ no_bytes a.before a.block m a.acks.now a.waiting.now a.out.now a.lengths.now c.requires.sound (omega arith) few w.if-out-sizes.true
      | then-out-sizes-via-else-out-sizes+then-lengths-sizes w ↦ no_lengths a.before a.block m a.acks.now a.waiting.now a.out.now a.lengths.now c.requires.sound (omega arith) few w.if-lengths-sizes.true
    ])

pub returns-then-sizes-eq0 : goal.returns-then-sizes-eq0
returns-then-sizes-eq0 c =
    let a = c.args in
    let m = store_of 8 (lists a.records.now a.room.now) in
    let full = c.requires.waiting_len in
    let most = c.requires.own_numbers.acklist.waiting in
    rw c.idle.ensures (flush-idle a.before a.block m a.acks.now a.waiting.now a.out.now a.lengths.now c.requires.sound (omega arith) (c.flush_sizes-sizes.ensures.by_index a.room.now) c.if-out-sizes.false c.if-lengths-sizes.false c.if-sizes-eq0.true (omega (arith, c.well_formed.1.0.1.1.1.1.1.1.1.1.1.0)) refl)

pub flush_write-flown-requires : goal.flush_write-flown-requires
flush_write-flown-requires c =
    let a = c.args in
    let m = store_of 8 (lists a.records.now a.room.now) in
    let full = c.requires.waiting_len in
    let most = c.requires.own_numbers.acklist.waiting in
    let z = c.flush_sizes-sizes.ensures in
    let p = c.requires.own_numbers in
    let fits = flush_fits a.before a.block m a.acks.now a.waiting.now a.out.now a.lengths.now c.requires.sound (omega arith) (z.by_index a.room.now) c.if-out-sizes.false c.if-lengths-sizes.false z.start_bound in
    record {
      plan_value = c.planned-plan.ensures;
      settings_fit = p.settings;
      ack_list_fits = p.acklist;
      acks_in_bounds = c.requires.acks_in_bounds;
      waiting_len = full;
      sound = c.requires.sound;
      flush_fits = fits;
    }

pub returns : goal.returns
returns c =
    let a = c.args in
    let m = store_of 8 (lists a.records.now a.room.now) in
    let full = c.requires.waiting_len in
    let most = c.requires.own_numbers.acklist.waiting in
    let z = c.flush_sizes-sizes.ensures in
    flush-done a.before a.block m a.acks.now a.waiting.now a.out.now a.lengths.now c.requires.sound (omega arith) (z.by_index a.room.now) c.if-out-sizes.false c.if-lengths-sizes.false c.flush_write-flown.ensures c.settled.ensures
