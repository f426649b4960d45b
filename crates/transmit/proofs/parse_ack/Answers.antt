-- `transmit::parse_ack` meets its contract. Assumes nothing.
use native.Mathlib.Omega.{arith}
use Rattle.transmit.proofs.Steps.{asks, inside, ack-out, ack-unmet, ack-at, ack_left, ack-done}
use Rattle.std.proofs.Common.{not, sym, ap, ◌∙◌}
use Rattle.transmit.proofs.parse_ack.Goals as goal

pub returns-then-not-in_range : goal.returns-then-not-in_range
returns-then-not-in_range c =
    λ room. ack-out c.requires c.args.sn c.in_range.ensures c.shrink.ensures room (ap not c.if-not-in_range.true)

pub seek-requires : goal.seek-requires
seek-requires c =
    inside c.requires

pub returns-in_default : goal.returns-in_default
returns-in_default c =
    λ room. ack-unmet c.requires c.args.sn c.in_range.ensures c.shrink-in_default.ensures room (ap not c.if-not-in_range.false) (λ r. sym c.in_default.is ∙ c.seek.ensures r)

pub take_out-less-requires : goal.take_out-less-requires
take_out-less-requires c =
    let w = asks c.requires in
    let h = ack-at c.requires c.args.sn c.in_range.ensures (ap not c.if-not-in_range.false) c.in-Some.ensures in
    record {
      records_len_bound = omega arith;
      start_in_bounds = omega arith;
      unsent_in_bounds = omega arith;
      i_lt_reach = omega arith;
      flying_nonzero = omega arith;
    }

pub shrink-requires-2 : goal.shrink-requires-2
shrink-requires-2 c =
    ack_left c.requires c.args.sn c.in_range.ensures (ap not c.if-not-in_range.false) c.in-Some.ensures _ c.take_out-less.ensures c.with_ring.ensures

pub returns : goal.returns
returns c =
    ack-done c.requires c.args.sn c.in_range.ensures (ap not c.if-not-in_range.false) c.in-Some.ensures _ c.take_out-less.ensures c.with_ring.ensures c.shrink-2.ensures
