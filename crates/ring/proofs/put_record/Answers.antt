-- `ring::put_record` meets its contract. The first i numbers are written, and nothing else has changed. Assumes nothing.
use native.Mathlib.Omega.{arith}
use Prim.Native.Nat.{◌*◌}
use mathlib.Core.Path.{◌≡◌, refl}
use native.Mathlib.Nat.{add-zero}
use lib.ListN.{length, length-set}
use lib.Seq.{paste-zero}
use Rattle.ring.proofs.Rows.{put-turn, put-end}
use Rattle.ring.proofs.put_record.Goals as goal

pub overflow_mul-base : goal.overflow_mul-base
overflow_mul-base c = omega arith

pub loop-i-init : goal.loop-i-init
loop-i-init c = (omega arith, (refl, paste-zero c.args.records.now (c.args.slot * length c.args.numbers.now) c.args.numbers.now))

pub offset_bounds-numbers-i : goal.offset_bounds-numbers-i
offset_bounds-numbers-i c = omega arith

pub bounds-numbers-i : goal.bounds-numbers-i
bounds-numbers-i c = omega arith

pub overflow_add-records : goal.overflow_add-records
overflow_add-records c = omega arith

pub offset_bounds-records-base : goal.offset_bounds-records-base
offset_bounds-records-base c = omega arith

pub bounds-records-base : goal.bounds-records-base
bounds-records-base c = omega arith

pub overflow_add-i : goal.overflow_add-i
overflow_add-i c = omega arith

pub loop-i-smaller : goal.loop-i-smaller
loop-i-smaller c = omega arith

pub loop-i-preserved : goal.loop-i-preserved
loop-i-preserved c =
    let args = c.args in
    (omega arith, (simp length-set (omega arith), put-turn _ _ args.numbers.now _ c.loop-i.i (omega arith) (omega arith) c.loop-i.invariant.1.1))

pub shape_of-records : goal.shape_of-records
shape_of-records c = omega arith

pub returns : goal.returns
returns c =
    let args = c.args in
    let e : c.loop-i.i ≡ length args.numbers.now = omega arith in
    rw add-zero (put-end _ _ args.numbers.now _ (rw e at c.loop-i.invariant.1.1))
