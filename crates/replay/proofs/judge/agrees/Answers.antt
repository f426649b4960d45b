-- `replay::judge::agrees` meets its contract. What the calls ensure. Assumes nothing.
use Rattle.recorded.proofs.Loops.{sum_plain}
use Rattle.replay.proofs.Judging.{verdict}
use Rattle.replay.proofs.judge.agrees.Goals as goal

pub returns : goal.returns
returns c = verdict _ _ _ _ c.held_in.ensures c.numbers-all.ensures.value (sum_plain _ c.sum_of.ensures) c.same.ensures
