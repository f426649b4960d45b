-- `ring::tally` meets its contract: the counts of two runs are that of the indices, of which there are few. Assumes nothing.
use Rattle.std.proofs.Common.{arith}
use Rattle.ring.proofs.Counting.{count_two, count_le}
use Rattle.ring.proofs.tally.Goals as goal

pub overflow_add-result : goal.overflow_add-result
overflow_add-result c =
    let a = c.args in
    let x = count_two a.low a.words.now a.start a.from a.n _ (omega arith) (omega arith) c.place_of-a.ensures.0 (omega arith) in
    omega (arith, c.scan-x.ensures.0, c.scan-y.ensures.0, count_le a.low a.words.now a.start a.from a.n)

pub overflow_add-result-2 : goal.overflow_add-result-2
overflow_add-result-2 c =
    let a = c.args in
    let x = count_two a.high a.words.now a.start a.from a.n _ (omega arith) (omega arith) c.place_of-a.ensures.0 (omega arith) in
    omega (arith, c.scan-x.ensures.1, c.scan-y.ensures.1, count_le a.high a.words.now a.start a.from a.n)
