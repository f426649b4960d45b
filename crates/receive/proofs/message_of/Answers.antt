-- `receive::message_of` meets its contract: i segments passed, and the rest of the queue is still to be counted. Assumes nothing.
use native.Mathlib.Omega.{arith}
use Prim.Native.Nat.{◌+◌, ◌-◌}
use native.Mathlib.Nat.{zero-add}
use mathlib.Core.Path.{◌≡◌}
use Rattle.ring.specs.Places.{summed}
use Rattle.ring.proofs.Places.{summed-last}
use Rattle.rcv_ring.specs.Places.{frg_at, size_at}
use Rattle.receive.proofs.Fronts.{message_on, message-ends, message_none, spans_of}
use Rattle.receive.proofs.message_of.Goals as goal

pub overflow_cast-count : goal.overflow_cast-count
overflow_cast-count c = omega arith

pub loop-i-init : goal.loop-i-init
unfolding summed
loop-i-init c =
    let q = c.args.ring.queued in
    let z : q - 0 ≡ q = omega arith in
    (omega arith, omega arith, omega arith, rw (z, zero-add))

pub size_at-size-requires : goal.size_at-size-requires
size_at-size-requires c = omega arith

pub overflow_add-size : goal.overflow_add-size
overflow_add-size c = omega arith

pub frg_at-requires : goal.frg_at-requires
frg_at-requires c = omega arith

pub overflow_add-result : goal.overflow_add-result
overflow_add-result c = omega arith

pub returns-then-frg_at-eq0 : goal.returns-then-frg_at-eq0
returns-then-frg_at-eq0 c =
    let a = c.args in
    let l = c.loop-i in
    let f = c.frg_at.ensures in
    let n = c.size_at-size.ensures in
    let e = message-ends (frg_at a.ring a.records.now) l.i a.ring.queued (omega arith) (omega arith) in
    let m = rw zero-add at (summed-last (size_at a.ring a.records.now) 0 l.i) in
    spans_of a.ring a.records.now (l.i + 1) (omega arith) _ (omega arith)

pub loop-i-preserved : goal.loop-i-preserved
loop-i-preserved c =
    let a = c.args in
    let l = c.loop-i in
    let f = c.frg_at.ensures in
    let n = c.size_at-size.ensures in
    let e = message_on (frg_at a.ring a.records.now) l.i a.ring.queued (omega arith) (λ z. c.if-frg_at-eq0.false (omega arith)) in
    let m = rw zero-add at (summed-last (size_at a.ring a.records.now) 0 l.i) in
    (omega arith, omega arith, omega arith, omega arith)

pub returns : goal.returns
returns c =
    let a = c.args in
    let l = c.loop-i in
    let e = message_none (frg_at a.ring a.records.now) l.i a.ring.queued (omega arith) in
    let q : l.i ≡ a.ring.queued = omega arith in
    spans_of a.ring a.records.now a.ring.queued (omega arith) _ (rw q at c.loop-i.invariant.2)
