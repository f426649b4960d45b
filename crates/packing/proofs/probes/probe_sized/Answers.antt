-- `probe_sized` meets its contract. Assumes nothing.
use mathlib.Core.Path.{sym}
use Rattle.serial.specs.Branch.{pick}
use Rattle.packing.proofs.Turns.{sized_none}
use Rattle.packing.proofs.probes.probe_sized.Goals as goal

pub returns-then-on : goal.returns-then-on
unfolding pick
returns-then-on c = rw c.if-on.true c.size.ensures

pub returns-else-on : goal.returns-else-on
unfolding pick
returns-else-on c = rw c.if-on.false (sym (sized_none _ _))
