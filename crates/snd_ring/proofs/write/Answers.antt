-- `snd_ring::write` meets its contract. Assumes nothing.
use native.Mathlib.Omega.{arith}
use Rattle.ring.specs.Lists.{lists}
use Rattle.snd_ring.proofs.Splits.{room_within, written_by}
use Rattle.snd_ring.proofs.write.Goals as goal

pub put_payload-requires : goal.put_payload-requires
put_payload-requires c =
    let a = c.args in
    let p = c.requires in
    record {
      slot_in_bounds = room_within 8 (lists a.records.now a.room.now) p.sized a.q p.q_in_bounds;
      src_bound = omega arith;
    }

pub returns : goal.returns
returns c =
    let a = c.args in
    let p = c.requires in
    let n = c.slots_in-slots.ensures in
    written_by 8 a.records.now a.room.now _ a.q _ a.row.now a.payload.now n (rw n p.q_in_bounds) p.row_len (rw p.row_len at c.put_record.ensures) c.put_payload.ensures
