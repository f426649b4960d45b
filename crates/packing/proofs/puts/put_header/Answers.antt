-- `put_header` meets its contract: the copy of an array to a part. Assumes nothing.
use native.Mathlib.Omega.{arith}
use Rattle.ring.proofs.Rows.{by_copy}
use Rattle.packing.proofs.puts.put_header.Goals as goal

pub returns : goal.returns
returns c =
    let args = c.args in
    let e = c.bytes-b.ensures in
    let d = by_copy args.dst.now c.bytes-b.result _ args.at (omega arith) c.copy.ensures in
    rw e at d
