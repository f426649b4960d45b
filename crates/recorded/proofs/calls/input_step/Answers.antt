-- `recorded::calls::input_step` meets its contract. What the calls ensure. Assumes nothing.
use Rattle.recorded.proofs.Making.{inputs}
use Rattle.recorded.proofs.calls.input_step.Goals as goal

pub returns-clause-is : goal.returns-clause-is
returns-clause-is c = inputs _ _ c.input.ensures.is c.by_input.ensures
