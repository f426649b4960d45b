-- `send::needed` meets its contract. Assumes nothing.
use native.Mathlib.Omega.{arith}
use Rattle.sending.specs.Send.{needed}
use Rattle.send.proofs.Numbers.{joins-within}
use Rattle.send.proofs.needed.Goals as goal

pub overflow_sub-n : goal.overflow_sub-n
overflow_sub-n c =
    let a = c.args in
    let j = joins-within a.mss a.stream a.queued a.last a.n in
    let e = c.joins.ensures in
    omega arith

pub returns : goal.returns
unfolding needed
returns c = rw (← c.joins.ensures) c.pieces.ensures
