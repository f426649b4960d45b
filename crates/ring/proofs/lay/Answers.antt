-- `ring::lay` meets its contract: two copies, by way of an array, are one. Assumes nothing.
use Rattle.std.proofs.Common.{refl, length, arith}
use Rattle.ring.proofs.Rows.{by_way}
use Rattle.ring.proofs.lay.Goals as goal

pub returns : goal.returns
returns c =
    let a = c.args in
    by_way a.dst.now a.src.now (length a.src.now) _ _ c.copy-2.new.dst a.at refl (omega arith) c.copy.ensures c.copy-2.ensures
