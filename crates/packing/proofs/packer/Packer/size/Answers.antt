-- `Packer::size` meets its contract: a datagram goes out, or the piece joins what waits. Assumes nothing.
use Rattle.packing.proofs.Turns.{turn-leaves, turn-joins}
use Rattle.packing.proofs.packer.Packer.size.Goals as goal

pub returns-then-departs : goal.returns-then-departs
returns-then-departs c = (turn-leaves _ _ _ _ c.departs.ensures c.if-departs.true).0

pub returns : goal.returns
returns c = (turn-joins _ _ _ _ c.departs.ensures c.if-departs.false).0
