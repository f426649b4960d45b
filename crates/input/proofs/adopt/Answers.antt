-- `input::adopt` meets its contract. Assumes nothing.
use mathlib.Core.Path.{sym, ◌∙◌, refl}
use Rattle.input.proofs.Judging.{adopted-not, adopted-other}
use Rattle.input.proofs.adopt.Goals as goal

pub returns-then-not-adopts : goal.returns-then-not-adopts
returns-then-not-adopts c = let a = c.args in adopted-not a.met a.block (sym c.adopts.ensures ∙ c.if-not-adopts.true)

pub returns : goal.returns
returns c = let a = c.args in adopted-other a.met a.block (sym c.adopts.ensures ∙ c.if-not-adopts.false) refl
