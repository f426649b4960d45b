-- `acks_cut` meets its contract: a turn for each ack. Assumes nothing.
use mathlib.Core.Path.{refl}
use native.Mathlib.Omega.{arith}
use lib.ListN.{replicate}
use Rattle.packing.proofs.Turns.{cutting-start, going-within, cutting-fits, cutting_on, cutting-end}
use Rattle.packing.proofs.AckBytes.{each_alike, total_alike, alike_all, alike_next, alike_none}
use Rattle.packing.proofs.acks.acks_cut.Goals as goal

pub loop-init : goal.loop-init
loop-init c = rw (alike_all _ 24) (cutting-start _ _ _ _ (omega arith) (each_alike 1500 24 c.args.n (omega arith)) (omega arith))

pub cut-q-requires : goal.cut-q-requires
cut-q-requires c =
    let n = c.args.n in
    let g = rw (alike_next n _ 24 c.loop-test.true) at c.loop.invariant in
    let w = going-within _ (replicate n 24) g.going refl in
    record {
      n_bound = omega (arith, w.0, total_alike n 24);
      used_bound = omega (arith, g.going.small);
      n_in_bounds = cutting-fits g;
    }

pub loop-preserved : goal.loop-preserved
loop-preserved c =
    let g = rw (alike_next _ _ 24 c.loop-test.true) at c.loop.invariant in
    cutting_on _ _ g (omega arith) c.cut-q.ensures.value c.cut-q.ensures.lengths_after

pub returns : goal.returns
returns c =
    let r = cutting-end (rw (alike_none _ _ 24 c.loop-test.false) at c.loop.invariant) in
    record {
      value = r.0;
      lengths_after = r.1;
    }
