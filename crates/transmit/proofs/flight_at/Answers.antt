-- `transmit::flight_at` meets its contract. Assumes nothing.
use Rattle.transmit.proofs.flight_at.Goals as goal

pub returns : goal.returns
returns c = rw (c.number_at.ensures, c.number_at-2.ensures, c.number_at-3.ensures)
