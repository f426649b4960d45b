-- `recorded::calls::send_step` meets its contract. Either side of the test. Assumes nothing.
use Rattle.std.proofs.Common.{sym, refl, arith}
use lib.Seq.{length-take-le}
use Rattle.recorded.proofs.Making.{send-long, sends}
use Rattle.recorded.proofs.calls.send_step.Goals as goal

pub returns-then-len-gt-MESSAGE : goal.returns-then-len-gt-MESSAGE
returns-then-len-gt-MESSAGE c = send-long _ _ _ c.unplayed.ensures refl c.if-len-gt-MESSAGE.true

pub slice_bounds-send_in-end : goal.slice_bounds-send_in-end
slice_bounds-send_in-end c = sym (length-take-le _ _ (omega arith))

pub returns : goal.returns
returns c = sends _ _ _ refl refl (length-take-le _ _ (omega arith)) c.send_in.ensures c.if-len-gt-MESSAGE.false
