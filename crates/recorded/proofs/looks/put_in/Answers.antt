-- `recorded::looks::put_in` meets its contract. What the calls ensure. Assumes nothing.
use Rattle.recorded.proofs.Loops.{sum_plain}
use Rattle.recorded.proofs.Looking.{put-made}
use Rattle.recorded.proofs.looks.put_in.Goals as goal

pub returns : goal.returns
returns c = put-made _ _ c.copy_from_slice.ensures.after c.set_conv-put.ensures (sum_plain _ c.sum_of.ensures) c.as_refusal.ensures c.answered.ensures
