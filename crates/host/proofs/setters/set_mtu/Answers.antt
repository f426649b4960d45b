-- `host::setters::set_mtu` meets its contract. Assumes nothing.
use Rattle.std.proofs.Common.{sym, refl}
use native.Mathlib.Omega.{arith}
use mathlib.Core.Path.{ap, ◌∙◌}
use Rattle.serial.specs.Branch.{pick}
use Rattle.block.specs.declared.set.Set.{Set}
use Rattle.block.specs.declared.Kcp.{Kcp}
use Rattle.block.specs.Sizes.{mtu_size}
use Rattle.block.specs.Setters.{set_mtu}
use Rattle.words.specs.Words.{block_of, with_mtu_words}
use Rattle.words.proofs.Tests.{block_length}
use Rattle.host.proofs.Words.{set-refused, set-done, mtu-words}
use Rattle.host.proofs.setters.set_mtu.Goals as goal

pub returns-in_default : goal.returns-in_default
returns-in_default c = let a = c.args in set-refused (λ k. (set_mtu k a.mtu).block) (pick (mtu_size a.mtu) 0 10) a.words.now (sym c.in_default.ensures) refl

pub put_mtu-requires : goal.put_mtu-requires
put_mtu-requires c = block_length c.args.words.now c.in-Some.ensures.0

pub returns : goal.returns
returns c =
    let a = c.args in
    let l = a.words.now in
    set-done (λ k. (set_mtu k a.mtu).block) (pick (mtu_size a.mtu) 0 10) l (λ m. with_mtu_words (set_mtu (block_of l) a.mtu).block.settings m) (sym c.in-Some.ensures.0) refl (λ i. omega (arith, c.slice_known-1.given i)) (mtu-words (block_of l) a.mtu) (c.number_of.ensures ∙ c.set_mtu-set.ensures.refusal)
    (c.put_mtu.ensures ∙ ap (λ (x : Set). with_mtu_words x.block.settings l) (c.set_mtu-set.ensures.outcome ∙ ap (λ (k : Kcp). set_mtu k a.mtu) c.in-Some.ensures.1))
