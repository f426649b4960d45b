-- `recorded::sums::sum_of` meets its contract. The loop's invariant: the sum so far and the numbers left give the sum. Assumes nothing.
use Rattle.std.proofs.Common.{sym, ◌∙◌}
use Rattle.recorded.proofs.Loops.{sum_first, sum_more, sum-end}
use Rattle.recorded.proofs.sums.sum_of.Goals as goal

pub loop-x-init : goal.loop-x-init
loop-x-init g c = λ f w. sum_first f _

pub loop-x-preserved : goal.loop-x-preserved
loop-x-preserved g c =
    let l = c.loop-x in
    λ f w. sum_more f _ c.x-item.result l.place l.sum l.x-index c.into-n.result c.loop-x-test.true c.x-item.is (w _ _ c.into-n.ensures) ∙ l.invariant f w

pub returns : goal.returns
returns g c = let l = c.loop-x in λ f w. sym (sum-end f _ l.place l.sum l.x-index c.loop-x-test.false) ∙ l.invariant f w
