-- `flushing::clock::far` meets its contract. Assumes nothing.
use Rattle.std.proofs.Common.{refl}
use Rattle.flushing.proofs.Far.{far-near, far_off}
use Rattle.flushing.proofs.clock.far.Goals as goal

pub returns-then-past-ge-FAR : goal.returns-then-past-ge-FAR
returns-then-past-ge-FAR c = let a = c.args in far_off a.current a.ts_flush _ refl c.if-past-ge-FAR.true

pub returns-else-past-ge-FAR : goal.returns-else-past-ge-FAR
returns-else-past-ge-FAR c = let a = c.args in far-near a.current a.ts_flush _ refl c.if-past-ge-FAR.false
