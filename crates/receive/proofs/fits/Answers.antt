-- `receive::fits` meets its contract. Assumes nothing.
use Rattle.receive.proofs.Exact.{tested-good}
use Rattle.receive.proofs.fits.Goals as goal

pub returns-then-own-clause-good : goal.returns-then-own-clause-good
returns-then-own-clause-good c = tested-good (c.requires c.if-own.true) c.lent_fits.ensures
