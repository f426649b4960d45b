-- `host::setters::set_conv` meets its contract. Assumes nothing.
use Rattle.std.proofs.Common.{sym}
use Rattle.block.specs.declared.Kcp.{Kcp}
use native.Mathlib.Omega.{arith}
use mathlib.Core.Path.{refl, ap, ◌∙◌}
use lib.ListN.{set}
use Rattle.block.specs.Setters.{set_conv}
use Rattle.words.specs.Words.{block_of}
use Rattle.words.proofs.Tests.{block_length}
use Rattle.host.proofs.Words.{set-refused, set-done, conv-words}
use Rattle.host.proofs.setters.set_conv.Goals as goal

pub returns-in_default : goal.returns-in_default
returns-in_default c = let a = c.args in set-refused (λ k. set_conv k a.conv) 0 a.words.now (sym c.in_default.ensures) refl

pub put_word-requires-clause-words_len : goal.put_word-requires-clause-words_len
put_word-requires-clause-words_len c = block_length c.args.words.now c.in-Some.ensures.0

pub returns : goal.returns
returns c =
    let a = c.args in
    let l = a.words.now in
    set-done (λ k. set_conv k a.conv) 0 l (λ m. set m 16 (set_conv (block_of l) a.conv).settings.conv) (sym c.in-Some.ensures.0) refl (λ i. omega (arith, c.slice_known-1.given i)) (conv-words (block_of l) a.conv) refl
    (c.put_word.ensures ∙ ap (λ (k : Kcp). set l 16 k.settings.conv) (c.set_conv-after.ensures ∙ ap (λ (x : Kcp). set_conv x a.conv) c.in-Some.ensures.1))
