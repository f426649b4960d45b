-- `words::write` meets its contract: one word more is written, and at the end all of them. Assumes nothing.
use native.Mathlib.Omega.{arith}
use mathlib.Core.Path.{◌≡◌, ap, ◌∙◌}
use lib.ListN.{length}
use Rattle.words.specs.Words.{words_of}
use Rattle.ring.proofs.Sequences.{mixed_none, mixed_more, mixed_all}
use Rattle.words.proofs.write.Goals as goal

pub loop-i-init : goal.loop-i-init
loop-i-init c = mixed_none _ _

pub loop-i-preserved : goal.loop-i-preserved
unfolding words_of
loop-i-preserved c =
    let n : length c.words_of-all.result ≡ 35 = ap length c.words_of-all.ensures in
    mixed_more _ _ _ c.loop-i.i (omega arith) (omega arith) c.loop-i.invariant

pub returns : goal.returns
unfolding words_of
returns c =
    let n : length c.words_of-all.result ≡ 35 = ap length c.words_of-all.ensures in
    c.loop-i.invariant ∙ mixed_all _ _ c.loop-i.i (omega arith) (omega arith) ∙ c.words_of-all.ensures
