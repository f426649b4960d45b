-- `due::fresh_run` meets its contract. Assumes nothing.
use native.Mathlib.Omega.{arith}
use Prim.Native.Nat.{ℕ, ◌≤◌, ◌<◌}
use mathlib.Core.Path.{refl, sym, ◌∙◌}
use lib.ListN.{get_or}
use Rattle.ring.specs.Lists.{lists}
use Rattle.snd_ring.specs.Store.{store_of}
use Rattle.flight.proofs.Places.{each_next}
use Rattle.due.proofs.Sizing.{grows, fresh-size, fresh-next, fresh-end}
use Rattle.due.proofs.fresh_run.Goals as goal

pub loop-q-init : goal.loop-q-init
loop-q-init c =
    (omega arith, omega arith, c.requires.each, λ room. refl)

pub overflow_sub-records : goal.overflow_sub-records
overflow_sub-records c =
    let l = c.loop-q in
    let e = each_next (λ (q : ℕ). (0 < get_or c.args.records.now q 0) × (get_or c.args.records.now q 0 ≤ 1477)) l.q c.args.to c.loop-q-test.true l.invariant.2 in
    omega arith

pub overflow_cast-records : goal.overflow_cast-records
overflow_cast-records c =
    let l = c.loop-q in
    let e = each_next (λ (q : ℕ). (0 < get_or c.args.records.now q 0) × (get_or c.args.records.now q 0 ≤ 1477)) l.q c.args.to c.loop-q-test.true l.invariant.2 in
    omega arith

pub overflow_add-records : goal.overflow_add-records
overflow_add-records c =
    let l = c.loop-q in
    let e = each_next (λ (q : ℕ). (0 < get_or c.args.records.now q 0) × (get_or c.args.records.now q 0 ≤ 1477)) l.q c.args.to c.loop-q-test.true l.invariant.2 in
    omega arith

pub size-p-requires : goal.size-p-requires
size-p-requires c =
    let l = c.loop-q in
    let e = each_next (λ (q : ℕ). (0 < get_or c.args.records.now q 0) × (get_or c.args.records.now q 0 ≤ 1477)) l.q c.args.to c.loop-q-test.true l.invariant.2 in
    record {
      n_bound = omega arith;
      count_bound = omega arith;
    }

pub loop-q-preserved : goal.loop-q-preserved
loop-q-preserved c =
    let l = c.loop-q in
    let e = each_next (λ (q : ℕ). (0 < get_or c.args.records.now q 0) × (get_or c.args.records.now q 0 ≤ 1477)) l.q c.args.to c.loop-q-test.true l.invariant.2 in
    let g = grows c.args.mtu l.p _ _ c.size-p.ensures (omega arith) in (
      omega arith,
      omega arith,
      e.1,
      λ room. fresh-next c.args.mtu (store_of 8 (lists c.args.records.now room)) l.q c.args.to l.p (omega arith) (fresh-size c.args.mtu l.p _ c.args.records.now l.q (omega arith) c.size-p.ensures room) ∙ l.invariant.3 room,
    )

pub returns : goal.returns
returns c =
    let l = c.loop-q in
    record {
      by_index = λ room. sym (fresh-end c.args.mtu (store_of 8 (lists c.args.records.now room)) l.q c.args.to l.p (omega arith)) ∙ l.invariant.3 room;
      used_bound_2 = (omega arith, omega arith);
    }
