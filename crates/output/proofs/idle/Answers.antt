-- `output::idle` meets its contract. Assumes nothing.
use Rattle.output.proofs.idle.Goals as goal

pub returns : goal.returns
returns c = rw (c.settled.ensures, c.uncounted-none.ensures)
