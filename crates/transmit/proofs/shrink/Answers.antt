-- `transmit::shrink` meets its contract. Assumes nothing.
use native.Mathlib.Omega.{arith}
use mathlib.Core.Path.{◌∙◌}
use Rattle.transmit.proofs.Steps.{asks, shrunk_none, shrunk-front}
use Rattle.transmit.proofs.shrink.Goals as goal

pub returns-then-ring-eq0 : goal.returns-then-ring-eq0
returns-then-ring-eq0 c =
    λ room. c.with_una.ensures ∙ shrunk_none c.requires c.if-ring-eq0.true room

pub number_at-requires : goal.number_at-requires
number_at-requires c =
    let w = asks c.requires in
    record {
      q_lt_slots = omega arith;
      k_bound = omega arith;
    }

pub returns : goal.returns
returns c =
    λ room. c.with_una-2.ensures ∙ shrunk-front c.requires c.if-ring-eq0.false c.number_at.ensures room
