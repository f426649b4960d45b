-- `sending::raise`: the records up to the index are raised, and the rest are as they were. Assumes nothing.
use Rattle.std.proofs.Common.{◌≡◌}
use Rattle.sending.specs.Flights.{raised_flight}
use Rattle.sending.proofs.Upto.{upto}
use Rattle.sending.proofs.raise.Given as goal

abbrev pub invariant-loop-f : goal.invariant-loop-f
invariant-loop-f l = l.flights ≡ upto (raised_flight l.latest.sn l.latest.ts) l.f-index l.initial.flights
