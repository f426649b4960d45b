-- `flight::tm_packet` meets its contract. Assumes nothing.
use Rattle.ring.specs.Lists.{lists}
use Rattle.snd_ring.specs.Store.{store_of}
use Rattle.flight.proofs.Steps.{runs_by, tm_both}
use Rattle.flight.proofs.tm_packet.Goals as goal

pub returns : goal.returns
returns c =
    let a = c.args in
    let r = c.runs_of-runs in
    λ room. rw (runs_by a.records.now c.slots_in-slots.ensures room a.ring.start 0 a.ring.reach r.ensures)
    (tm_both a.current (store_of 8 (lists a.records.now room)) _ _ a.tm (c.tm_run-least.ensures room) (c.tm_run.ensures room))
