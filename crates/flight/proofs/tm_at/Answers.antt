-- `flight::tm_at` meets its contract. Assumes nothing.
use Rattle.flight.proofs.Steps.{tm-gap, tm-live}
use Rattle.flight.proofs.tm_at.Goals as goal

pub returns-then-records-q-eq0 : goal.returns-then-records-q-eq0
returns-then-records-q-eq0 c =
    tm-gap c.args.current c.args.records.now c.args.q c.requires.q_lt_slots c.args.tm c.if-records-q-eq0.true

pub returns : goal.returns
returns c =
    tm-live c.args.current c.args.records.now c.args.q c.requires.q_lt_slots c.args.tm c.if-records-q-eq0.false c.number_at.ensures c.nearest.ensures
