-- `flight::tm_step` meets its contract. Assumes nothing.
use mathlib.Core.Path.{refl, ap, ◌∙◌}
use Rattle.flight.specs.Memory.{reckoned_of}
use Rattle.flight.proofs.Steps.{step_stays}
use borrow.Author.Rules.{rules}
use Rattle.flight.proofs.tm_step.Goals as goal

pub returns-then-resendts-w : goal.returns-then-resendts-w
returns-then-resendts-w c =
    step_stays c.args.current c.args.records.now c.args.q c.requires.q_lt_slots c.args.w.tm (search rules) c.requires.w_value c.number_at-resendts.ensures refl c.if-resendts-w.true

pub returns : goal.returns
returns c =
    λ room. c.reckoned.ensures ∙ ap (reckoned_of c.args.current) (c.tm_at.ensures room)
