-- `flight::runs_of` meets its contract. Assumes nothing.
use Rattle.flight.proofs.Places.{covers_one, covers_two}
use Rattle.flight.proofs.runs_of.Goals as goal

pub returns-then-n-left : goal.returns-then-n-left
returns-then-n-left c =
    covers_one c.args.slots c.args.start c.args.from c.args.n c.requires.start_lt_slots c.requires.n_bound c.place_of-q.ensures c.if-n-left.true

pub returns : goal.returns
returns c =
    covers_two c.args.slots c.args.start c.args.from c.args.n c.requires.start_lt_slots c.requires.n_bound c.place_of-q.ensures c.if-n-left.false
