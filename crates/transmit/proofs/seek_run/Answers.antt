-- `transmit::seek_run` meets its contract: the places before q are passed. Assumes nothing.
use native.Mathlib.Omega.{arith}
use mathlib.Core.List.{[]}
use Rattle.ring.specs.Lists.{lists}
use Rattle.snd_ring.specs.Store.{store_of}
use Rattle.transmit.specs.Memory.{ends_at}
use Rattle.transmit.proofs.Run.{on-gap, ends_by, on_by, passed_more}
use Rattle.transmit.proofs.seek_run.Goals as goal
use Rattle.transmit.proofs.seek_run.Goals.{then-ends+else-records-q-ne0, else-ends}

pub loop-q-init : goal.loop-q-init
loop-q-init c = (omega arith, omega arith, λ p low high. absurd (omega arith))

pub number_at-requires : goal.number_at-requires
number_at-requires c = omega arith

pub ends-requires : goal.ends-requires
ends-requires c = omega arith

pub offset_bounds-records-q : goal.offset_bounds-records-q
offset_bounds-records-q c = omega arith

pub bounds-records-q : goal.bounds-records-q
bounds-records-q c = omega arith

pub returns-then-records-q-ne0 : goal.returns-then-records-q-ne0
returns-then-records-q-ne0 c =
    let l = c.loop-q in
    record {
      low = l.invariant.0;
      high = l.invariant.1;
      passed = l.invariant.2;
      ended = λ _. ends_by c.args.sn c.args.records.now l.q (omega arith) c.number_at.ensures c.ends.ensures c.if-ends.true c.if-records-q-ne0.true;
    }

pub overflow_add-q : goal.overflow_add-q
overflow_add-q c = omega arith

pub loop-q-smaller : goal.loop-q-smaller
loop-q-smaller c = omega arith

pub loop-q-preserved : goal.loop-q-preserved
loop-q-preserved c =
    let l = c.loop-q in
    let a = c.args.records.now in (
      omega arith,
      omega arith,
      passed_more (ends_at c.args.sn (store_of 8 (lists a []))) c.args.from l.q l.invariant.2
          (elim c.if-ends.branch [
            | then-ends+else-records-q-ne0 w ↦ on-gap c.args.sn a l.q (omega arith) w.if-records-q-ne0.false
            | else-ends w ↦ on_by c.args.sn a l.q (omega arith) c.number_at.ensures c.ends.ensures w.if-ends.false
          ]),
    )

pub returns : goal.returns
returns c =
    let l = c.loop-q in
    record { low = l.invariant.0; high = l.invariant.1; passed = l.invariant.2; ended = λ h. absurd (omega arith) }
