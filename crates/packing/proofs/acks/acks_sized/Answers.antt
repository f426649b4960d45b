-- `acks_sized` meets its contract: a turn for each ack. Assumes nothing.
use Prim.Native.Nat.{ℕ}
use mathlib.Core.Path.{refl}
use native.Mathlib.Omega.{arith}
use lib.ListN.{replicate, length-replicate}
use Rattle.packing.proofs.Turns.{going_start, going-within, going_on, going_end}
use Rattle.packing.proofs.AckBytes.{each_alike, total_alike, alike_all, alike_next, alike_none}
use Rattle.packing.proofs.acks.acks_sized.Goals as goal

pub loop-init : goal.loop-init
loop-init c = rw (alike_all _ 24) (going_start _ _ _ (omega arith) (each_alike 1500 24 c.args.n (omega arith)))

pub size-q-requires : goal.size-q-requires
size-q-requires c =
    let n = c.args.n in
    let w = going-within _ (replicate n 24) (rw (alike_next n _ 24 c.loop-test.true) at c.loop.invariant) refl in
    record {
      n_bound = omega (arith, w.0, total_alike n 24);
      count_bound = omega (arith, w.1, length-replicate {A = ℕ} n 24);
    }

pub loop-preserved : goal.loop-preserved
loop-preserved c = going_on _ (rw (alike_next _ _ 24 c.loop-test.true) at c.loop.invariant) (omega arith) c.size-q.ensures

pub returns : goal.returns
returns c = going_end (rw (alike_none _ _ 24 c.loop-test.false) at c.loop.invariant)
