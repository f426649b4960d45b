-- `recorded::calls::send_in` meets its contract. What the calls ensure. Assumes nothing.
use Rattle.recorded.proofs.Making.{sends_in}
use Rattle.recorded.proofs.calls.send_in.Goals as goal

pub returns : goal.returns
returns c = sends_in _ _ _ _ c.fill.ensures c.send.ensures.is c.by_send.ensures
