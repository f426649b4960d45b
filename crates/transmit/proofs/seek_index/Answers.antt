-- `transmit::seek_index` meets its contract: the places in flight are one run, or two. Assumes nothing.
use native.Mathlib.Omega.{arith}
use mathlib.Core.List.{[]}
use Rattle.ring.specs.Lists.{lists}
use Rattle.snd_ring.specs.Store.{store_of}
use Rattle.transmit.specs.Memory.{ends_at}
use Rattle.transmit.proofs.Run.{one-run, in-first, in-second, by_slots}
use Rattle.transmit.proofs.seek_index.Goals as goal

pub returns-then-reach-left : goal.returns-then-reach-left
returns-then-reach-left c =
    let a = c.args in
    by_slots a.sn a.ring a.records.now c.slots_in-slots.ensures
    (one-run (ends_at a.sn (store_of 8 (lists a.records.now []))) c.slots_in-slots.result a.ring.start a.ring.reach (omega arith) _ c.seek_run.ensures)

pub returns-then-q-slots : goal.returns-then-q-slots
returns-then-q-slots c =
    let a = c.args in
    by_slots a.sn a.ring a.records.now c.slots_in-slots.ensures
    (in-first (ends_at a.sn (store_of 8 (lists a.records.now []))) c.slots_in-slots.result a.ring.start a.ring.reach (omega arith) (omega arith) _ c.seek_run-q.ensures c.if-q-slots.true)

pub overflow_add-result : goal.overflow_add-result
overflow_add-result c = let a = c.seek_run-2.ensures.high in omega arith

pub returns : goal.returns
returns c =
    let a = c.args in
    by_slots a.sn a.ring a.records.now c.slots_in-slots.ensures
    (in-second (ends_at a.sn (store_of 8 (lists a.records.now []))) c.slots_in-slots.result a.ring.start a.ring.reach (omega arith) (omega arith) _ c.seek_run-q.ensures (omega arith) _ c.seek_run-2.ensures)
