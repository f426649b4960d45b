-- `input::grown_by` meets its contract. Assumes nothing.
use mathlib.Core.Path.{sym, ◌∙◌}
use Rattle.input.proofs.Effects.{grown-not, grown_yes}
use Rattle.input.proofs.grown_by.Goals as goal

pub returns-then-not-after : goal.returns-then-not-after
returns-then-not-after c = let a = c.args in grown-not a.mss a.before a.una a.congestion (sym c.after.ensures ∙ c.if-not-after.true)

pub returns : goal.returns
returns c = let a = c.args in grown_yes a.mss a.before a.una a.congestion (sym c.after.ensures ∙ c.if-not-after.false) c.grown-grown.ensures
