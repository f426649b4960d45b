-- `snd_ring::SndRing::append` meets its contract. Assumes nothing.
use mathlib.Core.Path.{refl}
use Rattle.ring.specs.Lists.{lists}
use Rattle.snd_ring.proofs.Splits.{place_by}
use Rattle.snd_ring.proofs.SndRing.append.Goals as goal

pub returns : goal.returns
returns c =
    let a = c.args in
    (refl, rw (place_by 8 (lists a.records.now a.room.now) _ _ _ _ c.slots_in.ensures c.place_of-q.ensures.0) at c.write.ensures)
