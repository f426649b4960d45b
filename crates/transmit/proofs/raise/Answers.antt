-- `transmit::raise` meets its contract: the places in flight are one run, or two. Assumes nothing.
use Rattle.transmit.proofs.Portions.{runs_done}
use Rattle.transmit.proofs.raise.Goals as goal

pub returns : goal.returns
returns c =
    let a = c.args in
    λ room. runs_done a.latest.sn a.latest.ts a.ring a.records.now room c.slots_in-slots.ensures c.requires.started c.min-first.ensures (c.raise_run.ensures room) (c.raise_run-2.ensures room)
