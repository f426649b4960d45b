-- `snd_ring::SndRing::take_out` meets its contract. Assumes nothing.
use mathlib.Core.Path.{◌∙◌}
use Rattle.snd_ring.proofs.Steps.{gapped_by, taken_by}
use Rattle.snd_ring.proofs.SndRing.take_out.Goals as goal

pub returns : goal.returns
returns c =
    let a = c.args in
    let n = c.slots_in-slots.ensures in
    let p = c.place_of-q.ensures in
    λ room. (c.drop_front.ensures ∙ taken_by 8 a.self a.records.now room _ a.i _ n p.0 p.1, gapped_by 8 a.self a.records.now room _ a.i _ n p.0 p.1)
