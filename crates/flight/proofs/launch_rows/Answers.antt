-- `flight::launch_rows` meets its contract. Assumes nothing.
use native.Mathlib.Omega.{arith}
use mathlib.Core.Path.{refl, sym, ◌∙◌}
use Rattle.ring.specs.Lists.{lists}
use Rattle.snd_ring.specs.Store.{store_of}
use Rattle.flight.proofs.Steps.{launch_all, launch-next, launch-end}
use Rattle.flight.proofs.launch_rows.Goals as goal

pub loop-i-init : goal.loop-i-init
loop-i-init c =
    let a = c.args in
    λ room. launch_all a.conv a.current a.rx_rto c.slots_in-slots.result a.ring.start a.ring.reach a.k a.snd_nxt (store_of 8 (lists a.records.now room))

pub loop-i-preserved : goal.loop-i-preserved
loop-i-preserved c =
    let l = c.loop-i in
    let a = c.args in
    λ room. launch-next a.conv a.current a.rx_rto c.slots_in-slots.result a.ring.start a.ring.reach a.k l.i l.sn (store_of 8 (lists l.records room)) (omega arith) c.place_of-q.ensures refl (c.put_record_at.ensures room ∙ rw (c.numbered.ensures, c.record_at-record.ensures room)) ∙ l.invariant room

pub returns : goal.returns
returns c =
    let l = c.loop-i in
    let a = c.args in
    λ room. rw (← c.slots_in-slots.ensures) (sym (launch-end a.conv a.current a.rx_rto c.slots_in-slots.result a.ring.start a.ring.reach a.k l.i l.sn (store_of 8 (lists l.records room)) (omega arith)) ∙ l.invariant room)
