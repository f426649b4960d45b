-- `input::walk_all` meets its contract. Assumes nothing.
use native.Mathlib.Omega.{arith}
use mathlib.Core.Path.{refl, ◌∙◌}
use Rattle.ring.specs.Lists.{lists}
use Rattle.input.proofs.Loop.{going-first, in_datagram, few-skipped, next_in, going-ends, going-stops, less, going_on}
use Rattle.input.proofs.walk_all.Goals as goal

pub loop-at-init : goal.loop-at-init
loop-at-init c = let a = c.args in (going-first a.datagram.now a.start (lists a.rcv_records.now a.rcv_room.now) a.acks.now a.snd_records.now c.requires.good c.requires.lies c.requires.skipped_value, refl, refl, refl, refl)

pub overflow_sub-datagram : goal.overflow_sub-datagram
overflow_sub-datagram c = in_datagram c.loop-at.invariant.0 c.requires.datagram_len_bound

pub segment-met-requires : goal.segment-met-requires
segment-met-requires c = let i = c.loop-at.invariant in let p = c.requires in let few = p.acks_len_bound in let same = i.3 in
    record {
      good = i.0.good;
      lies = i.0.lies;
      acks_len_bound = omega arith;
      skipped_bound = few-skipped i.0 p.datagram_len_bound;
      at_in_bounds = next_in i.0 p.datagram_len_bound c.loop-at-test.true;
      datagram_len_bound = p.datagram_len_bound;
    }

pub shape_of-rcv_records-in_default : goal.shape_of-rcv_records-in_default
shape_of-rcv_records-in_default c = c.rcv_records-1.given ∙ c.loop-at.invariant.1

pub shape_of-rcv_room-in_default : goal.shape_of-rcv_room-in_default
shape_of-rcv_room-in_default c = c.rcv_room-1.given ∙ c.loop-at.invariant.2

pub shape_of-acks-in_default : goal.shape_of-acks-in_default
shape_of-acks-in_default c = c.acks-1.given ∙ c.loop-at.invariant.3

pub shape_of-snd_records-in_default : goal.shape_of-snd_records-in_default
shape_of-snd_records-in_default c = c.snd_records-1.given ∙ c.loop-at.invariant.4

pub returns-in_default : goal.returns-in_default
returns-in_default c = let w = c.segment-met.ensures in
    let r = going-stops c.loop-at.invariant.0 c.requires.datagram_len_bound c.loop-at-test.true _ (lists _ _) _ _ w.by_index c.in_default.is w.lies_2 w.skipped_bound_2 in
    record {
      by_index = r.0;
      lies_2 = r.1.0;
      skipped_bound = r.1.1;
    }

pub loop-at-smaller : goal.loop-at-smaller
loop-at-smaller c = less c.loop-at.invariant.0 c.requires.datagram_len_bound c.loop-at-test.true _ (lists _ _) _ _ c.segment-met.ensures.by_index c.in-Ok.is

pub loop-at-preserved : goal.loop-at-preserved
loop-at-preserved c = let w = c.segment-met.ensures in let i = c.loop-at.invariant in (going_on i.0 c.requires.datagram_len_bound c.loop-at-test.true _ (lists _ _) _ _ w.by_index c.in-Ok.is w.good_2 w.lies_2 w.skipped_bound_2, c.rcv_records-1.given ∙ i.1, c.rcv_room-1.given ∙ i.2, c.acks-1.given ∙ i.3, c.snd_records-1.given ∙ i.4)

pub shape_of-rcv_records : goal.shape_of-rcv_records
shape_of-rcv_records c = c.loop-at.invariant.1

pub shape_of-rcv_room : goal.shape_of-rcv_room
shape_of-rcv_room c = c.loop-at.invariant.2

pub shape_of-acks : goal.shape_of-acks
shape_of-acks c = c.loop-at.invariant.3

pub shape_of-snd_records : goal.shape_of-snd_records
shape_of-snd_records c = c.loop-at.invariant.4

pub returns : goal.returns
returns c =
    let r = going-ends c.loop-at.invariant.0 c.requires.datagram_len_bound c.loop-at-test.false in
    record {
      by_index = r.0;
      lies_2 = r.1.0;
      skipped_bound = r.1.1;
    }
