-- `transmit::parse_una` meets its contract. Assumes nothing.
use native.Mathlib.Omega.{arith}
use mathlib.Core.Path.{ap, ◌∙◌}
use mathlib.Core.List.{[]}
use lib.ListN.{length}
use Rattle.ring.specs.Lists.{lists}
use Rattle.snd_ring.proofs.Splits.{marks-length, part-marks}
use Rattle.transmit.proofs.Steps.{asks, inside, few, una_left, una-done}
use Rattle.transmit.proofs.parse_una.Goals as goal

pub acknowledged_count-n-requires : goal.acknowledged_count-n-requires
acknowledged_count-n-requires c =
    inside c.requires

pub drop_front-less-requires : goal.drop_front-less-requires
drop_front-less-requires c =
    let a = c.args in
    let w = asks c.requires in
    let n = ap length (part-marks 8 a.records.now [] _ c.slots_in-slots.ensures) ∙ marks-length 8 (lists a.records.now []) in
    record {
      within = record { many = omega arith; started = omega arith };
      unsent_in_bounds = omega arith;
      k_le_flying = few c.requires c.args.una c.slots_in-slots.ensures c.acknowledged_count-n.ensures;
    }

pub shrink-requires : goal.shrink-requires
shrink-requires c =
    una_left c.requires c.args.una c.slots_in-slots.ensures c.acknowledged_count-n.ensures c.drop_front-less.ensures c.with_ring.ensures

pub returns : goal.returns
returns c =
    una-done c.requires c.args.una c.slots_in-slots.ensures c.acknowledged_count-n.ensures c.drop_front-less.ensures c.with_ring.ensures c.shrink.ensures
