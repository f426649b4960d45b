-- `recorded::looks::recv_in` meets its contract. What the calls ensure. Assumes nothing.
use Rattle.recorded.proofs.Loops.{sum_plain}
use Rattle.recorded.proofs.Looking.{recv-made}
use Rattle.recorded.proofs.looks.recv_in.Goals as goal

pub returns : goal.returns
returns c = recv-made c.recv-out.ensures.is (sum_plain _ c.sum_of.ensures) c.by_recv.ensures
