-- `Packer::cut` meets its contract: a length is put, or none. Assumes nothing.
use mathlib.Core.Path.{sym, ap, ◌∙◌}
use native.Mathlib.Omega.{arith}
use lib.ListN.{length, length-set}
use Rattle.ring.proofs.Rows.{put_one}
use Rattle.packing.proofs.Laying.{put_none}
use Rattle.packing.proofs.Turns.{turn-leaves, turn-joins}
use Rattle.packing.proofs.packer.Packer.cut.Goals as goal
use Rattle.packing.proofs.packer.Packer.cut.Goals.{then-departs, else-departs}

pub bounds-lengths-self : goal.bounds-lengths-self
bounds-lengths-self c =
    let args = c.args in
    omega (arith, ap length (turn-leaves args.mtu args.self args.n _ c.departs.ensures c.if-departs.true).1)

pub shape_of-lengths : goal.shape_of-lengths
shape_of-lengths c =
    let args = c.args in
    elim c.if-departs.branch [
      | then-departs w ↦ ap length w.lengths-is ∙ length-set args.lengths.now args.self.count args.self.used
      | else-departs w ↦ ap length w.lengths-is
    ]

pub returns : goal.returns
returns c =
    let args = c.args in
    let d = c.departs.ensures in
    record {
      value = c.size.ensures;
      lengths_after =
          elim c.if-departs.branch [
            | then-departs w ↦ let e = (turn-leaves args.mtu args.self args.n _ d w.if-departs.true).1 in w.lengths-is ∙ rw e (put_one _ _ _ (omega (arith, ap length e)))
            | else-departs w ↦ w.lengths-is ∙ rw (turn-joins args.mtu args.self args.n _ d w.if-departs.false).1 (sym (put_none _ _))
          ];
    }
