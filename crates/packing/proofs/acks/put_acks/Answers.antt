-- `put_acks` meets its contract: a header for each pair. Assumes nothing.
use Prim.Native.Nat.{◌-◌}
use native.Mathlib.Omega.{arith}
use Rattle.packing.proofs.Laying.{laying-start, laying-end}
use Rattle.packing.proofs.AckBytes.{acks-length, acks_none, acks_on}
use Rattle.packing.proofs.acks.put_acks.Goals as goal

pub loop-i-init : goal.loop-i-init
loop-i-init c =
    let args = c.args in
    laying-start _ _ _ (omega (arith, acks-length args.told args.acks.now args.from (args.to - args.from)))

pub put_header-requires : goal.put_header-requires
put_header-requires c =
    let args = c.args in
    let loop = c.loop-i in
    omega (arith, loop.invariant.room, acks-length args.told args.acks.now loop.i (args.to - loop.i))

pub loop-i-preserved : goal.loop-i-preserved
loop-i-preserved c =
    let args = c.args in
    acks_on args.told args.acks.now _ _ _ _ c.loop-i.invariant c.loop-i-test.true
    c.number_at-sn.ensures
    c.number_at-ts.ensures
    c.bare_head.ensures
    c.put_header.ensures

pub returns : goal.returns
returns c =
    let args = c.args in
    laying-end (rw (acks_none args.told args.acks.now _ _ c.loop-i-test.false) at c.loop-i.invariant)
