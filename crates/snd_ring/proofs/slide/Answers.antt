-- `snd_ring::slide` meets its contract: a gap, a segment that stays, or one that moves. Assumes nothing.
use native.Mathlib.Omega.{arith}
use Rattle.ring.specs.Lists.{lists}
use Rattle.snd_ring.proofs.Splits.{room_within}
use Rattle.snd_ring.proofs.Slides.{here, slide-gap, slide-stay, slide_move}
use Rattle.snd_ring.proofs.slide.Goals as goal

pub returns-then-mark-eq0 : goal.returns-then-mark-eq0
returns-then-mark-eq0 c = slide-gap 8 c.args.records.now c.args.room.now _ c.args.start c.args.i c.args.to _ c.slots_in-slots.ensures c.place_of-a.ensures.0 c.place_of-a.ensures.1 c.if-mark-eq0.true

pub returns-then-next-i : goal.returns-then-next-i
returns-then-next-i c = slide-stay 8 c.args.records.now c.args.room.now _ c.args.start c.args.i c.args.to _ c.slots_in-slots.ensures c.place_of-a.ensures.0 c.place_of-a.ensures.1 c.if-mark-eq0.false c.requires.sized (omega arith) (omega arith) c.requires.i_bound c.if-next-i.true

pub shift-requires : goal.shift-requires
shift-requires c =
    let h = here 8 c.args.records.now c.args.room.now _ c.args.start c.args.i c.args.to _ c.slots_in-slots.ensures c.place_of-a.ensures.0 c.place_of-a.ensures.1 in
    let n = c.slots_in-slots.ensures in
    let m = lists c.args.records.now c.args.room.now in
    let z = c.requires.sized in
    record {
      a_in_bounds = room_within 8 m z _ (rw n at c.place_of-a.ensures.1);
      b_in_bounds = room_within 8 m z _ (rw n at c.place_of-b.ensures.1);
      n_bound = omega arith;
    }

pub returns : goal.returns
returns c = slide_move 8 c.args.records.now c.args.room.now _ c.args.start c.args.i c.args.to _ c.slots_in-slots.ensures c.place_of-a.ensures.0 c.place_of-a.ensures.1 c.if-mark-eq0.false _ c.place_of-b.ensures.0 c.place_of-b.ensures.1 c.carry.ensures c.shift.ensures
