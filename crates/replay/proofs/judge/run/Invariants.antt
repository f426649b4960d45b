-- `replay::judge::run` meets its contract. The loop's invariant: the tally of the whole is that from here, over the same lent memory. Assumes nothing.
use Rattle.std.proofs.Common.{◌-◌, length}
use Rattle.recorded.specs.Memory.{memory_of, Kept}
use Rattle.replay.proofs.Judging.{Here}
use Rattle.replay.proofs.judge.run.Given as goal

abbrev pub invariant-loop-made : goal.invariant-loop-made
invariant-loop-made l =
    Here l.recording (memory_of l.initial.made.block l.initial.lent) l.at (memory_of l.made.block l.lent) l.tally
    × Kept l.initial.lent l.lent

abbrev pub decreases-loop-made : goal.decreases-loop-made
decreases-loop-made l = length l.recording - l.at
