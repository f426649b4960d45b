-- `input::push` meets its contract. Assumes nothing.
use mathlib.Core.Path.{refl}
use Rattle.input.proofs.Effects.{skips-fit}
use Rattle.ring.specs.Lists.{lists}
use Rattle.input.specs.Segment.{push_of}
use Rattle.input.proofs.Effects.{push-skips, push-done}
use Rattle.input.proofs.push.Goals as goal

pub overflow_add-result : goal.overflow_add-result
overflow_add-result c =
    let a = c.args in
    skips-fit _ _ c.requires.skipped_bound (push-skips a.walk.block (lists a.rcv_records.now a.rcv_room.now) a.acks.now (push_of a.h a.payload.now) a.h.ts _ (lists _ _) _ c.push-out.ensures)

pub shape_of-rcv_records : goal.shape_of-rcv_records
shape_of-rcv_records c = c.rcv_records-1.given

pub returns : goal.returns
returns c = let a = c.args in push-done a.walk.block (lists a.rcv_records.now a.rcv_room.now) a.acks.now (push_of a.h a.payload.now) a.h.ts _ (lists _ _) _ c.push-out.ensures refl refl a.walk.latest a.walk.skipped
