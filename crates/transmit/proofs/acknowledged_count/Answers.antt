-- `transmit::acknowledged_count` meets its contract: n are counted, and what is left from index i on is still to be counted. Assumes nothing.
use native.Mathlib.Omega.{arith}
use mathlib.Core.Path.{◌≡◌, sym, ap, ◌∙◌}
use mathlib.Core.List.{[]}
use Rattle.serial.specs.Wrap.{after}
use Rattle.ring.specs.Lists.{lists}
use Rattle.snd_ring.specs.Store.{store_of}
use Rattle.sending.specs.Rules.{acknowledged_by}
use Rattle.transmit.specs.Memory.{flying_numbers}
use Rattle.transmit.proofs.Numbers.{left_all, left-gap, mark_is, number_is, numbers-room, counts_end, counts_on, counts-stop}
use Rattle.transmit.proofs.acknowledged_count.Goals as goal
use Rattle.transmit.proofs.acknowledged_count.Goals.{then-records-q-ne0+else-not-after, else-records-q-ne0}

pub loop-i-init : goal.loop-i-init
loop-i-init c =
    let a = c.args in
    let e = ap (acknowledged_by a.una) (left_all a.ring (store_of 8 (lists a.records.now []))) in
    (omega arith, omega arith)

pub returns-then-not-after : goal.returns-then-not-after
returns-then-not-after c =
    let a = c.args in
    let m = store_of 8 (lists a.records.now []) in
    let l = c.loop-i in
    let e = c.slots_in-slots.ensures in
    let p = c.place_of-q.ensures in
    let u = c.number_at.ensures ∙ number_is a.ring a.records.now [] l.i e p 2 in
    let s = counts-stop a.una a.ring m l.i (omega arith) (λ z. c.if-records-q-ne0.true (mark_is a.ring a.records.now [] l.i e p ∙ z)) (sym (ap (after a.una) u) ∙ sym c.after.ensures ∙ c.if-not-after.true) in
    let i = l.invariant.1 in
    let n : l.n ≡ acknowledged_by a.una (flying_numbers a.ring m) = omega arith in
    λ room. n ∙ ap (acknowledged_by a.una) (numbers-room a.ring a.records.now [] room)

pub loop-i-preserved : goal.loop-i-preserved
loop-i-preserved c =
    let a = c.args in
    let m = store_of 8 (lists a.records.now []) in
    let l = c.loop-i in
    let e = c.slots_in-slots.ensures in
    let p = c.place_of-q.ensures in
    let k = mark_is a.ring a.records.now [] l.i e p in
    let i = l.invariant.1 in
    elim c.if-records-q-ne0.branch [
      | then-records-q-ne0+else-not-after w ↦
          let u = w.number_at.ensures ∙ number_is a.ring a.records.now [] l.i e p 2 in
          let s = counts_on a.una a.ring m l.i (omega arith) (λ z. w.if-records-q-ne0.true (k ∙ z)) (sym (ap (after a.una) u) ∙ sym w.after.ensures ∙ w.if-not-after.false) in
          (omega arith, omega arith)
      | else-records-q-ne0 w ↦
          let s = ap (acknowledged_by a.una) (left-gap a.ring m l.i (omega arith) (sym k ∙ w.if-records-q-ne0.false)) in
          (omega arith, omega arith)
    ]

pub returns : goal.returns
returns c =
    let a = c.args in
    let m = store_of 8 (lists a.records.now []) in
    let l = c.loop-i in
    let s = counts_end a.una a.ring m l.i (omega arith) in
    let i = l.invariant.1 in
    let n : l.n ≡ acknowledged_by a.una (flying_numbers a.ring m) = omega arith in
    λ room. n ∙ ap (acknowledged_by a.una) (numbers-room a.ring a.records.now [] room)
