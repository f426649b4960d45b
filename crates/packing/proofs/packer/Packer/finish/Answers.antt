-- `Packer::finish` meets its contract: a length is put, or none. Assumes nothing.
use mathlib.Core.Path.{sym, ap, ◌∙◌}
use lib.ListN.{length}
use native.Mathlib.Omega.{arith}
use Rattle.ring.proofs.Rows.{put_one}
use Rattle.packing.proofs.Laying.{put_none}
use Rattle.packing.proofs.Turns.{closed_none, closed_one}
use Rattle.packing.proofs.packer.Packer.finish.Goals as goal
use Rattle.packing.proofs.packer.Packer.finish.Goals.{then-self-gt0, else-self-gt0}

pub bounds-lengths-self : goal.bounds-lengths-self
bounds-lengths-self c = omega (arith, ap length (closed_one c.args.self (λ z. omega arith)).1)

pub returns-clause-lengths_after : goal.returns-clause-lengths_after
returns-clause-lengths_after c =
    let p = c.args.self in
    elim c.if-self-gt0.branch [
      | then-self-gt0 w ↦ let e = (closed_one p (λ z. omega arith)).1 in w.lengths-is ∙ rw e (put_one _ _ _ (omega (arith, ap length e)))
      | else-self-gt0 w ↦ w.lengths-is ∙ sym (rw (closed_none p (omega arith)).1 (put_none _ _))
    ]
