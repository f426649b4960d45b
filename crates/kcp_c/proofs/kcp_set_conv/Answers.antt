-- `kcp_c::kcp_set_conv` meets its contract. The number of each answer of `wire::set_conv`, and the bytes that it ensures. Assumes nothing.
use mathlib.Core.Path.{ap, sym, ◌∙◌}
use Rattle.wire.specs.Helpers.{number_of}
use Rattle.kcp_c.proofs.kcp_set_conv.Goals as goal

pub returns-in_default : goal.returns-in_default
returns-in_default c = (ap number_of (sym c.in_default.is ∙ c.set_conv.ensures.answer), c.set_conv.ensures.bytes)

pub returns : goal.returns
returns c = (ap number_of (sym c.in-Ok.is ∙ c.set_conv.ensures.answer), c.set_conv.ensures.bytes)
