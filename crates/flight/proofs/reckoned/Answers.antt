-- `flight::reckoned` meets its contract. Assumes nothing.
use Rattle.flight.proofs.reckoned.Goals as goal

pub returns : goal.returns
returns c = rw c.ahead_of.ensures
