-- `send::last_length` meets its contract. Assumes nothing.
use native.Mathlib.Omega.{arith}
use mathlib.Core.Path.{◌∙◌}
use Rattle.transmit.proofs.Steps.{asks}
use Rattle.send.proofs.Steps.{last_by}
use Rattle.send.proofs.last_length.Goals as goal

pub place_of-q-requires : goal.place_of-q-requires
place_of-q-requires c =
    let w = asks c.requires in
    let e = c.saturating_sub.ensures in
    record {
      slots_bound = omega arith;
      start_lt_slots = omega arith;
      i_le_slots = omega arith;
    }

pub returns : goal.returns
returns c room =
    let a = c.args in
    c.saturating_sub-2.ensures
    ∙ last_by a.sender.ring a.records.now _ _ _ c.slots_in-slots.ensures c.saturating_sub.ensures c.place_of-q.ensures.0 c.place_of-q.ensures.1 room
