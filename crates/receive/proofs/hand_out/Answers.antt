-- `receive::hand_out` meets its contract. Assumes nothing.
use Rattle.ring.specs.Lists.{lists}
use Rattle.receive.proofs.Fronts.{left-lies, left_is}
use Rattle.receive.proofs.hand_out.Goals as goal

pub copy_out-requires : goal.copy_out-requires
copy_out-requires c = let p = c.requires in
    record {
      sound = p.good.sound;
      k_le_queued = p.count_le_queued;
      k_in_bounds = p.count_in_bounds;
    }

pub dropped-less-requires : goal.dropped-less-requires
dropped-less-requires c = let p = c.requires in let s = p.good.sound.shaped in
    record {
      slots_bound = s.many;
      start_lt_slots = s.started;
      k_le_queued = p.count_le_queued;
      reach_bound = s.within;
    }

pub move_buf-requires : goal.move_buf-requires
move_buf-requires c =
    let a = c.args in
    left-lies a.receiver (lists a.records.now a.room.now) a.count _ _ c.dropped-less.ensures c.with_ring.ensures c.requires.good.sound c.requires.count_le_queued

pub returns : goal.returns
returns c =
    let a = c.args in
    record {
      value = left_is a.receiver (lists a.records.now a.room.now) a.count _ _ c.dropped-less.ensures c.with_ring.ensures _ c.move_buf.ensures;
      buf_after = c.copy_out.ensures;
    }
