-- `send::queue` meets its contract: the pieces that are left, queued on the memory as it is, give what all of them give. Assumes nothing.
use native.Mathlib.Omega.{arith}
use Rattle.ring.specs.Lists.{lists}
use Rattle.snd_ring.specs.Store.{store_of}
use Rattle.snd_ring.proofs.Splits.{marks-length, same-lengths}
use Rattle.send.specs.Memory.{laid}
use Rattle.send.proofs.Steps.{turn-first, turn-next, turn_last, turn-needs}
use Rattle.send.proofs.queue.Goals as goal

pub loop-left-init : goal.loop-left-init
loop-left-init c =
    let a = c.args in
    let x = laid a.start (store_of 8 (lists a.records.now a.room.now)) in
    let e = marks-length 8 (lists a.records.now a.room.now) in
    turn-first a.count a.mss a.stream a.bytes.now a.from x c.requires.from_in_bounds c.requires.shaped (omega arith)

pub frg_of-requires : goal.frg_of-requires
frg_of-requires c = let t = c.loop-left.invariant in let r = t.room in let z = t.shaped.sized.most in omega arith

pub append-ring-requires : goal.append-ring-requires
append-ring-requires c =
    let a = c.args in
    let x = laid a.start (store_of 8 (lists a.records.now a.room.now)) in
    let l = c.loop-left in
    let r = turn-needs a.count a.mss a.stream a.bytes.now a.from x l.left l.at l.ring l.records l.room l.invariant c.loop-left-test.true c.requires.mss_bound _ _ c.frg_of.ensures c.min-end.ensures in
    record {
      shaped = r.0;
      unsent_in_bounds = r.1.0;
      row_len = r.1.1.0;
      payload_len_bound = r.1.1.1;
    }

pub loop-left-preserved : goal.loop-left-preserved
loop-left-preserved c =
    let a = c.args in
    let x = laid a.start (store_of 8 (lists a.records.now a.room.now)) in
    let l = c.loop-left in
    let w = c.append-ring.ensures in
    turn-next a.count a.mss a.stream a.bytes.now a.from x l.left l.at l.ring l.records l.room l.invariant c.loop-left-test.true c.requires.mss_bound _ _ c.frg_of.ensures c.min-end.ensures _ w.0 w.1

pub shape_of-records : goal.shape_of-records
shape_of-records c =
    let a = c.args in
    let l = c.loop-left in
    (same-lengths 8 (lists l.records l.room) (lists a.records.now a.room.now) l.invariant.shaped.sized c.requires.shaped.sized l.invariant.slots).0

pub shape_of-room : goal.shape_of-room
shape_of-room c =
    let a = c.args in
    let l = c.loop-left in
    (same-lengths 8 (lists l.records l.room) (lists a.records.now a.room.now) l.invariant.shaped.sized c.requires.shaped.sized l.invariant.slots).1

pub returns : goal.returns
returns c =
    let a = c.args in
    let x = laid a.start (store_of 8 (lists a.records.now a.room.now)) in
    turn_last a.count a.mss a.stream a.bytes.now a.from x _ _ _ (omega arith) c.loop-left.invariant
