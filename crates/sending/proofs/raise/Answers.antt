-- `sending::raise`: one more record is raised, and at the end all of them. Assumes nothing.
use Rattle.std.proofs.Common.{◌∙◌, arith}
use Rattle.sending.specs.Flights.{raised_flight}
use Rattle.sending.proofs.Upto.{upto_all, set-upto_of}
use Rattle.sending.proofs.raise.Goals as goal

pub loop-f-preserved : goal.loop-f-preserved
loop-f-preserved c =
    let a = c.args in
    set-upto_of (raised_flight a.latest.sn a.latest.ts) c.loop-f.f-index _ c.loop-f.flights _ c.raised.result c.loop-f.invariant (omega arith) c.raised.ensures

pub returns : goal.returns
returns c =
    let a = c.args in
    c.loop-f.invariant ∙ upto_all (raised_flight a.latest.sn a.latest.ts) c.loop-f.f-index a.flights.now (omega arith)
