-- `recorded::sums::fill` meets its contract. The loop's invariant: what is written and what is still to come are the message. Assumes nothing.
use Rattle.std.proofs.Common.{sym, ◌∙◌, arith}
use Rattle.recorded.proofs.Loops.{fill_more, fill_end}
use Rattle.recorded.proofs.sums.fill.Goals as goal

pub loop-byte-preserved : goal.loop-byte-preserved
loop-byte-preserved c = let l = c.loop-byte in fill_more l.bytes l.next l.byte-index _ (omega arith) (omega arith) ∙ l.invariant

pub returns : goal.returns
returns c = let l = c.loop-byte in sym (fill_end l.bytes l.next l.byte-index _ (omega arith) (omega arith)) ∙ l.invariant
