-- `recorded::calls::flush_ack_step` meets its contract. What the calls ensure. Assumes nothing.
use Rattle.recorded.proofs.Loops.{sum_plain}
use Rattle.recorded.proofs.Zeros.{all-zeros}
use Rattle.recorded.proofs.Making.{acks-out}
use Rattle.recorded.proofs.calls.flush_ack_step.Goals as goal

pub returns : goal.returns
returns c =
    acks-out _ _ _ (all-zeros _ c.filled-out.ensures.value) (all-zeros _ c.filled-lengths.ensures.value) c.flush_ack-sent.ensures.is (sum_plain _ c.sum_of.ensures) (sum_plain _ c.sum_of-2.ensures) c.by_out.ensures
