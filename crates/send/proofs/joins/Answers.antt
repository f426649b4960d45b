-- `send::joins` meets its contract. Assumes nothing.
use native.Mathlib.Omega.{arith}
use mathlib.Core.Path.{sym, ◌∙◌}
use Rattle.send.proofs.Numbers.{fills_facts}
use Rattle.send.proofs.joins.Goals as goal

pub overflow_sub-mss : goal.overflow_sub-mss
overflow_sub-mss c = let f = (fills_facts _ _ _ _ (sym c.fills.ensures ∙ c.if-not-fills.false)).1 in omega arith
