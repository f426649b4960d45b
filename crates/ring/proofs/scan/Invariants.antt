-- `ring::scan` meets its contract: the counts are those of the words before. Assumes nothing.
use Rattle.std.proofs.Common.{◌≡◌}
use Rattle.ring.specs.Counting.{count_in}
use Rattle.ring.proofs.scan.Given as goal

abbrev pub invariant-loop-word : goal.invariant-loop-word
invariant-loop-word l = record {
  low : l.counts.low ≡ count_in l.low l.run 0 l.word-index;
  high : l.counts.high ≡ count_in l.high l.run 0 l.word-index;
}
