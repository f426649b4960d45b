-- `snd_ring::SndRing::fill` meets its contract. Assumes nothing.
use native.Mathlib.Omega.{arith}
use mathlib.Core.Path.{◌∙◌}
use Rattle.ring.specs.Lists.{lists}
use Rattle.snd_ring.specs.Steps.{last}
use Rattle.snd_ring.proofs.Splits.{room_within}
use Rattle.snd_ring.proofs.Slides.{here}
use Rattle.snd_ring.proofs.Fills.{filled_by}
use Rattle.snd_ring.proofs.SndRing.fill.Goals as goal

pub overflow_sub-mark : goal.overflow_sub-mark
overflow_sub-mark c =
    let h = here 8 c.args.records.now c.args.room.now _ c.args.self.start (last c.args.self) 0 _ c.slots_in.ensures c.place_of-q.ensures.0 c.place_of-q.ensures.1 in
    omega arith

pub put_payload-requires : goal.put_payload-requires
put_payload-requires c =
    let h = here 8 c.args.records.now c.args.room.now _ c.args.self.start (last c.args.self) 0 _ c.slots_in.ensures c.place_of-q.ensures.0 c.place_of-q.ensures.1 in
    let a = c.args in
    record {
      slot_in_bounds = room_within 8 (lists a.records.now a.room.now) c.requires.shaped.sized _ (rw c.slots_in.ensures at c.place_of-q.ensures.1);
      src_bound = omega arith;
    }

pub overflow_add-records : goal.overflow_add-records
overflow_add-records c =
    let h = here 8 c.args.records.now c.args.room.now _ c.args.self.start (last c.args.self) 0 _ c.slots_in.ensures c.place_of-q.ensures.0 c.place_of-q.ensures.1 in
    omega arith

pub returns : goal.returns
returns c =
    let a = c.args in
    c.put_number.ensures _ ∙ filled_by 8 a.self a.records.now a.room.now _ _ a.bytes.now a.k a.x c.slots_in.ensures c.place_of-q.ensures.0 c.place_of-q.ensures.1 c.put_payload.ensures
