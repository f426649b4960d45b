-- `replay::judge::run` meets its contract. The loop's invariant: the tally of the whole is that from here, over the same lent memory. Assumes nothing.
use Rattle.std.proofs.Common.{refl, ap, ◌∙◌, arith}
use Rattle.recorded.specs.declared.rows.Row.{Row}
use Rattle.replay.proofs.Judging.{here-first, ends, goes, from_block}
use Rattle.replay.proofs.judge.run.Goals as goal

pub loop-made-init : goal.loop-made-init
loop-made-init c = (here-first _ _, (refl, refl, refl, refl, refl, refl))

pub whole-requires : goal.whole-requires
whole-requires c = c.loop-made.invariant.0.within

pub row_at-row-requires : goal.row_at-row-requires
row_at-row-requires c = (c.whole.ensures.whole c.loop-made-test.true).numbers

pub overflow_add-from : goal.overflow_add-from
overflow_add-from c = let w = c.whole.ensures.whole c.loop-made-test.true in let n = w.numbers in let b = w.bytes in omega (arith, c.well_formed)

pub overflow_add-to : goal.overflow_add-to
overflow_add-to c = let w = c.whole.ensures.whole c.loop-made-test.true in let n = w.numbers in let b = w.bytes in omega (arith, ap (λ (r : Row). r.bytes) c.row_at-row.ensures, c.well_formed)

pub slice_bounds-make-count : goal.slice_bounds-make-count
slice_bounds-make-count c = let w = c.whole.ensures.whole c.loop-made-test.true in let n = w.numbers in let b = w.bytes in omega arith

pub slice_bounds-make-start : goal.slice_bounds-make-start
slice_bounds-make-start c = let w = c.whole.ensures.whole c.loop-made-test.true in let n = w.numbers in let b = w.bytes in omega arith

pub slice_bounds-make-end : goal.slice_bounds-make-end
slice_bounds-make-end c = let w = c.whole.ensures.whole c.loop-made-test.true in let n = w.numbers in let b = w.bytes in omega (arith, ap (λ (r : Row). r.bytes) c.row_at-row.ensures)

pub with-tally-requires : goal.with-tally-requires
with-tally-requires c =
    let h = c.loop-made.invariant.0 in
    let f = h.few in
    let w = c.whole.ensures.whole c.loop-made-test.true in
    let n = w.numbers in
    let b = w.bytes in
    record {
      steps_bound = omega (arith, c.well_formed);
      agreed_le_steps = h.fewer;
    }

pub loop-made-smaller : goal.loop-made-smaller
loop-made-smaller c = let w = c.whole.ensures.whole c.loop-made-test.true in let n = w.numbers in let b = w.bytes in omega arith

pub loop-made-preserved : goal.loop-made-preserved
loop-made-preserved c =
    let l = c.loop-made.invariant in
    let k = c.make-made.ensures.kept in (
      goes _ l.0 c.whole.ensures.value c.loop-made-test.true (c.whole.ensures.whole c.loop-made-test.true) c.row_at-row.ensures refl c.make-made.ensures.is c.agrees.ensures c.with-tally.ensures,
      (k.0 ∙ l.1.0, k.1 ∙ l.1.1, k.2 ∙ l.1.2, k.3 ∙ l.1.3, k.4 ∙ l.1.4, k.5 ∙ l.1.5),
    )

pub returns : goal.returns
returns c =
    record {
      value = from_block _ c.args.lent.now c.unplayed-made.ensures (ends _ c.loop-made.invariant.0 c.whole.ensures.value c.loop-made-test.false);
      kept = c.loop-made.invariant.1;
    }
