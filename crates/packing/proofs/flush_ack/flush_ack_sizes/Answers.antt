-- `flush_ack_sizes` meets its contract. Assumes nothing.
use mathlib.Core.Path.{ap, ◌∙◌}
use native.Mathlib.Omega.{arith}
use lib.ListN.{replicate}
use Rattle.packing.specs.declared.packer.Packer.{Packer}
use Rattle.packing.specs.Packer.{sized}
use Rattle.packing.proofs.flush_ack.flush_ack_sizes.Goals as goal

pub acks_sized-requires : goal.acks_sized-requires
acks_sized-requires c =
    let e = c.new.ensures in
    omega (arith, ap (λ (q : Packer). q.start) e, ap (λ (q : Packer). q.used) e, ap (λ (q : Packer). q.count) e)

pub returns : goal.returns
returns c =
    let args = c.args in
    c.acks_sized.ensures ∙ ap (λ (q : Packer). sized args.mtu q (replicate args.n 24)) c.new.ensures
