-- `words::write` meets its contract: the first i words are written, and the rest are as they were. Assumes nothing.
use mathlib.Core.Path.{◌≡◌}
use Rattle.ring.proofs.Sequences.{mixed}
use Rattle.words.proofs.write.Given as goal

abbrev pub invariant-loop-i : goal.invariant-loop-i
invariant-loop-i l = l.words ≡ mixed l.all l.initial.words l.i
