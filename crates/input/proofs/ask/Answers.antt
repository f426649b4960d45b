-- `input::ask` meets its contract. Assumes nothing.
use Rattle.input.proofs.ask.Goals as goal

pub returns : goal.returns
returns c = rw c.tell.ensures
