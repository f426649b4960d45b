-- `host::setters::set_fast_resend` meets its contract. Assumes nothing.
use Rattle.std.proofs.Common.{sym}
use Rattle.block.specs.declared.Kcp.{Kcp}
use native.Mathlib.Omega.{arith}
use mathlib.Core.Path.{refl, ap, ◌∙◌}
use lib.ListN.{set}
use Rattle.block.specs.Setters.{set_fast_resend}
use Rattle.words.specs.Words.{block_of}
use Rattle.words.proofs.Tests.{block_length}
use Rattle.host.proofs.Words.{set-refused, set-done, resend-words}
use Rattle.host.proofs.setters.set_fast_resend.Goals as goal

pub returns-in_default : goal.returns-in_default
returns-in_default c = let a = c.args in set-refused (λ k. set_fast_resend k a.fr) 0 a.words.now (sym c.in_default.ensures) refl

pub put_word-requires-clause-words_len : goal.put_word-requires-clause-words_len
put_word-requires-clause-words_len c = block_length c.args.words.now c.in-Some.ensures.0

pub returns : goal.returns
returns c =
    let a = c.args in
    let l = a.words.now in
    set-done (λ k. set_fast_resend k a.fr) 0 l (λ m. set m 32 (set_fast_resend (block_of l) a.fr).settings.fastresend) (sym c.in-Some.ensures.0) refl (λ i. omega (arith, c.slice_known-1.given i)) (resend-words (block_of l) a.fr) refl
    (c.put_word.ensures ∙ ap (λ (k : Kcp). set l 32 k.settings.fastresend) (c.set_fast_resend-after.ensures ∙ ap (λ (x : Kcp). set_fast_resend x a.fr) c.in-Some.ensures.1))
