-- `kcp_c::kcp_get_conv` meets its contract. The law of each answer of `wire::get_conv`. Assumes nothing.
use Rattle.kcp_c.proofs.Laws.{answered-short, answered_is}
use Rattle.kcp_c.proofs.kcp_get_conv.Goals as goal

pub returns-in_default : goal.returns-in_default
returns-in_default c = answered-short _ c.get_conv.ensures.answer c.in_default.is

pub returns : goal.returns
returns c = answered_is _ _ c.get_conv.ensures.answer c.in-Ok.is
