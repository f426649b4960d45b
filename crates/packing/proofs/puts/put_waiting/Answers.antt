-- `put_waiting` meets its contract: two copies, by way of an array, are one. Assumes nothing.
use Prim.Native.Nat.{◌-◌}
use mathlib.Core.Path.{◌≡◌, ◌∙◌}
use native.Mathlib.Omega.{arith}
use lib.ListN.{take}
use lib.Seq.{length-take-le}
use Rattle.packing.proofs.Laying.{way-start}
use Rattle.packing.proofs.puts.put_waiting.Goals as goal

pub returns : goal.returns
returns c =
    let args = c.args in
    let all : args.held - 0 ≡ args.held = omega arith in
    let size = length-take-le (args.held - 0) args.waiting.now (omega arith) in
    way-start args.dst.now (take (args.held - 0) args.waiting.now) args.held _ _ _ (size ∙ all)
    c.copy.ensures
    c.copy-2.ensures
    ∙ rw all
