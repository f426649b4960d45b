-- `kcp_c::kcp_measured` meets its contract. What `Estimator::measured` ensures, as a row. Assumes nothing.
use mathlib.Core.Path.{ap}
use Rattle.kcp_c.specs.Numbers.{estimator_numbers}
use Rattle.kcp_c.proofs.kcp_measured.Goals as goal

pub returns : goal.returns
returns c = ap estimator_numbers c.measured-r.ensures
