-- `recorded::looks::looked_over` meets its contract. Two arms that the search leaves: the signed numbers, and the sum over the getters. Assumes nothing.
use Rattle.recorded.specs.Looks.{look_of}
use Rattle.recorded.proofs.Loops.{sum_plain}
use Rattle.recorded.proofs.Looking.{set-nodelay}
use Rattle.recorded.proofs.looks.looked_over.Goals as goal

pub returns-in-SetNodelay : goal.returns-in-SetNodelay
unfolding look_of
returns-in-SetNodelay c =
    rw (
      c.in-SetNodelay.is,
      c.set_to-in-SetNodelay.ensures,
      set-nodelay c.args.row c.args.block c.cast_signed.ensures c.cast_signed-in-SetNodelay.ensures (record { sfits = c.cast_signed.type_inv }) (record { sfits = c.cast_signed-in-SetNodelay.type_inv }) c.set_nodelay.ensures,
    )

pub returns-in-Get : goal.returns-in-Get
unfolding look_of
returns-in-Get c = rw (c.in-Get.is, sum_plain _ c.sum_of.ensures, c.gotten.ensures.value)
