-- `host::setters::input_conv` meets its contract. Assumes nothing.
use Rattle.std.proofs.Common.{sym}
use native.Mathlib.Omega.{arith}
use mathlib.Core.Path.{refl, ◌∙◌}
use Rattle.block.specs.declared.Kcp.{Kcp}
use Rattle.block.specs.Setters.{input_conv}
use Rattle.words.specs.Words.{block_of, with_flags}
use Rattle.words.proofs.Tests.{block_length}
use Rattle.host.proofs.Words.{set-refused, set-done, await-words}
use Rattle.std.proofs.Common.{ap}
use Rattle.host.proofs.setters.input_conv.Goals as goal

pub returns-in_default : goal.returns-in_default
returns-in_default c = let a = c.args in set-refused (λ k. input_conv k) 0 a.words.now (sym c.in_default.ensures) refl

pub put_flags-requires : goal.put_flags-requires
put_flags-requires c = block_length c.args.words.now c.in-Some.ensures.0

pub returns : goal.returns
returns c =
    let a = c.args in
    let l = a.words.now in
    set-done (λ k. input_conv k) 0 l (λ m. with_flags (input_conv (block_of l)) m) (sym c.in-Some.ensures.0) refl (λ i. omega (arith, c.slice_known-1.given i)) (await-words (block_of l)) refl
    (c.put_flags.ensures ∙ ap (λ (k : Kcp). with_flags k l) (c.input_conv-after.ensures ∙ ap (λ (x : Kcp). input_conv x) c.in-Some.ensures.1))
