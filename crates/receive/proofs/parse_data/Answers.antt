-- `receive::parse_data` meets its contract. Assumes nothing.
use native.Mathlib.Omega.{arith}
use Rattle.ring.specs.Lists.{lists}
use Rattle.receive.proofs.Seen.{slot_in}
use Rattle.receive.proofs.Pushes.{data-held, new-lies, data-new}
use Rattle.receive.proofs.Exact.{good-lies}
use Rattle.receive.proofs.parse_data.Goals as goal

pub is_held-requires : goal.is_held-requires
is_held-requires c =
    let g = c.requires.good.sound.shaped in
    let h = slot_in c.requires.good c.args.sn c.requires.sn_value in
    let d = c.distance_of-d.ensures in
    record {
      within = record { many = g.many; started = g.started };
      d_in_bounds = omega arith;
    }

pub move_buf-requires : goal.move_buf-requires
move_buf-requires c = good-lies c.requires.good

pub returns-then-is_held : goal.returns-then-is_held
returns-then-is_held c =
    let a = c.args in
    data-held a.receiver (lists a.records.now a.room.now) (record { sn = a.sn; frg = a.frg; payload = a.payload.now }) _ c.distance_of-d.ensures _ c.is_held.ensures c.if-is_held.true _ c.move_buf.ensures

pub store-with-requires : goal.store-with-requires
store-with-requires c =
    let h = slot_in c.requires.good c.args.sn c.requires.sn_value in
    let d = c.distance_of-d.ensures in
    record {
      shaped = c.requires.good.sound.shaped;
      d_in_bounds = omega arith;
      payload_len_bound = c.requires.payload_len_bound;
    }

pub move_buf-requires-2 : goal.move_buf-requires-2
move_buf-requires-2 c =
    let a = c.args in
    let w = c.store-with.ensures in
    new-lies a.receiver (lists a.records.now a.room.now) (record { sn = a.sn; frg = a.frg; payload = a.payload.now }) _ c.distance_of-d.ensures _ c.is_held.ensures _ _ _ w.value c.with_ring.ensures w.room_after c.requires.good c.requires.sn_value (omega arith) c.requires.payload_len_bound

pub returns : goal.returns
returns c =
    let a = c.args in
    let w = c.store-with.ensures in
    data-new a.receiver (lists a.records.now a.room.now) (record { sn = a.sn; frg = a.frg; payload = a.payload.now }) _ c.distance_of-d.ensures _ c.is_held.ensures _ _ _ w.value c.with_ring.ensures w.room_after c.if-is_held.false _ c.move_buf-2.ensures
