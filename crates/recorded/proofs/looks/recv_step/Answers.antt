-- `recorded::looks::recv_step` meets its contract. Either side of the test. Assumes nothing.
use Rattle.std.proofs.Common.{sym, arith}
use lib.Seq.{length-take-le}
use Rattle.recorded.proofs.Zeros.{all-zeros}
use Rattle.recorded.proofs.Looking.{recv-long, recv-fits}
use Rattle.recorded.proofs.looks.recv_step.Goals as goal

pub returns-then-len-gt-BUFFER : goal.returns-then-len-gt-BUFFER
returns-then-len-gt-BUFFER c = recv-long _ _ _ c.unplayed.ensures c.if-len-gt-BUFFER.true

pub slice_bounds-recv_in-end : goal.slice_bounds-recv_in-end
slice_bounds-recv_in-end c = sym (length-take-le _ _ (omega arith))

pub returns : goal.returns
returns c = recv-fits _ _ _ (all-zeros _ c.filled-buf.ensures.value) c.recv_in.ensures c.if-len-gt-BUFFER.false
