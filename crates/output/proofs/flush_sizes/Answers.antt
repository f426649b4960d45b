-- `output::flush_sizes` meets its contract: front, flight and those that leave the queue, one behind the other. Assumes nothing.
use native.Mathlib.Omega.{arith}
use Rattle.output.proofs.Sizes.{leavers-few, within, sizes-staged, sizes-front, closed-sum}
use Rattle.output.proofs.flush_sizes.Goals as goal

pub close-requires : goal.close-requires
close-requires c =
    let f = c.front_sized-front.ensures.used_bound in
    record {
      used_bound = omega arith;
      count_bound = omega arith;
    }

pub returns-then-plan-eq0 : goal.returns-then-plan-eq0
returns-then-plan-eq0 c =
    let e = c.requires.plan_value in
    let f = c.front_sized-front.ensures in
    let z = closed-sum _ c.close.ensures in
    record {
      by_index = λ room. sizes-front c.args.block c.args.records.now room c.if-ring-eq0.true (rw e at c.if-plan-eq0.true) (rw e at f.value) c.close.ensures;
      start_bound = omega arith;
    }

pub fresh_sizes-all-requires : goal.fresh_sizes-all-requires
fresh_sizes-all-requires c =
    let rung = c.requires.rung in
    let w = within c.args.block c.args.records.now rung in
    let d = c.due_sizes-flying.ensures.used_bound_2 in
    let f = c.front_sized-front.ensures.used_bound in
    record {
      rung = rung;
      k_le_unsent = rw c.requires.plan_value (leavers-few c.args.block c.args.records.now rung);
      used_bound = omega arith;
      count_bound = omega arith;
    }

pub close-requires-2 : goal.close-requires-2
close-requires-2 c =
    let rung = c.requires.rung in
    let w = within c.args.block c.args.records.now rung in
    let k = leavers-few c.args.block c.args.records.now rung in
    let e = c.requires.plan_value in
    let g = rw e at c.fresh_sizes-all.ensures.used_bound_2 in
    let d = c.due_sizes-flying.ensures.used_bound_2 in
    let f = c.front_sized-front.ensures.used_bound in
    record {
      used_bound = omega arith;
      count_bound = omega arith;
    }

pub returns : goal.returns
returns c =
    let rung = c.requires.rung in
    let w = within c.args.block c.args.records.now rung in
    let k = leavers-few c.args.block c.args.records.now rung in
    let e = c.requires.plan_value in
    let g = rw e at c.fresh_sizes-all.ensures.used_bound_2 in
    let d = c.due_sizes-flying.ensures.used_bound_2 in
    let f = c.front_sized-front.ensures.used_bound in
    let z = closed-sum _ c.close-2.ensures in
    record {
      by_index = λ room. sizes-staged c.args.block c.args.records.now room (rw e at c.front_sized-front.ensures.value) (rw e at (c.due_sizes-flying.ensures.by_index room)) (rw e at (c.fresh_sizes-all.ensures.by_index room)) c.close-2.ensures;
      start_bound = omega arith;
    }
