-- `host_input::values_in` meets its contract. Assumes nothing.
use Rattle.host_input.proofs.Laws.{values-counted, values-refused}
use Rattle.host_input.proofs.values_in.Goals as goal

pub returns-in-Ok : goal.returns-in-Ok
returns-in-Ok c = values-counted c.in-Ok.is

pub returns-in-Err : goal.returns-in-Err
returns-in-Err c = values-refused c.in-Err.is c.values-row.ensures
