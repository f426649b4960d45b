-- `output::told` meets its contract. Assumes nothing.
use Rattle.output.proofs.told.Goals as goal

pub returns : goal.returns
returns c = rw c.wnd_unused.ensures
