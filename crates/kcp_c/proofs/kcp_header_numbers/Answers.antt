-- `kcp_c::kcp_header_numbers` meets its contract. What `wire::read_header` ensures, as a row. Assumes nothing.
use mathlib.Core.Path.{ap}
use Rattle.kcp_c.specs.Numbers.{header_numbers}
use Rattle.kcp_c.proofs.kcp_header_numbers.Goals as goal

pub returns : goal.returns
returns c = ap header_numbers c.read_header-h.ensures
