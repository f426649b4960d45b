-- `Packer::close` meets its contract. Assumes nothing.
use Rattle.packing.proofs.Turns.{closed_none, closed_one}
use Rattle.packing.proofs.packer.Packer.close.Goals as goal

pub returns-then-self-eq0 : goal.returns-then-self-eq0
returns-then-self-eq0 c = (closed_none c.args.self c.if-self-eq0.true).0

pub returns : goal.returns
returns c = (closed_one c.args.self c.if-self-eq0.false).0
