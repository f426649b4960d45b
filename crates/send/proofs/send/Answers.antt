-- `send::send` meets its contract. Assumes nothing.
use native.Mathlib.Omega.{arith}
use Rattle.ring.specs.Lists.{lists}
use Rattle.snd_ring.specs.Store.{store_of}
use Rattle.snd_ring.proofs.Splits.{marks-length}
use Rattle.snd_ring.proofs.Closing.{flying-few}
use Rattle.send.proofs.Sends.{sent_big, sent-full, room-needs, queue-needs, sent_all}
use borrow.Author.Rules.{rules}
use Rattle.send.proofs.send.Goals as goal

pub last_length-last-requires : goal.last_length-last-requires
last_length-last-requires c = record { room = c.args.room.now; sound = c.requires.sound }

pub returns-then-new-ge128 : goal.returns-then-new-ge128
returns-then-new-ge128 c =
    let a = c.args in
    sent_big a.mss a.stream a.bytes.now a.sender a.records.now a.room.now c.requires.sound c.requires.mss_bound _ c.last_length-last.ensures _ c.needed-new.ensures c.if-new-ge128.true _ _ c.refused.ensures c.fill_last.ensures

pub overflow_sub-slots : goal.overflow_sub-slots
overflow_sub-slots c =
    let a = c.args in
    let m = store_of 8 (lists a.records.now a.room.now) in
    let e = marks-length 8 (lists a.records.now a.room.now) in
    let f = flying-few 8 a.sender.ring m c.requires.sound in
    let n = c.requires.sound.shaped.many in
    omega arith

pub returns-then-slots-segments : goal.returns-then-slots-segments
returns-then-slots-segments c =
    let a = c.args in
    sent-full a.mss a.stream a.bytes.now a.sender a.records.now a.room.now c.requires.sound c.requires.mss_bound _ c.last_length-last.ensures _ c.needed-new.ensures c.if-new-ge128.false _ _ c.slots_in-slots.ensures c.segments.ensures c.if-slots-segments.true _ c.refused-then-slots-segments.ensures

pub make_room-free-requires : goal.make_room-free-requires
make_room-free-requires c =
    let a = c.args in
    let r = room-needs a.mss a.stream a.bytes.now a.sender a.records.now a.room.now c.requires.sound c.requires.mss_bound _ c.last_length-last.ensures _ c.needed-new.ensures c.if-new-ge128.false _ _ c.slots_in-slots.ensures c.segments.ensures c.if-slots-segments.false _ c.joins-from.ensures _ c.fill_last-2.ensures in
    record {
      sound = r.0;
      bound = r.1;
    }

pub queue-after-requires : goal.queue-after-requires
queue-after-requires c =
    let a = c.args in
    let r = queue-needs a.mss a.stream a.bytes.now a.sender a.records.now a.room.now c.requires.sound c.requires.mss_bound _ c.last_length-last.ensures _ c.needed-new.ensures c.if-new-ge128.false _ _ c.slots_in-slots.ensures c.segments.ensures c.if-slots-segments.false _ c.joins-from.ensures _ c.fill_last-2.ensures _ _ _ c.make_room-free.ensures in
    record {
      shaped = r.0;
      count_in_bounds = r.1.0;
      mss_bound = r.1.1.0;
      from_in_bounds = r.1.1.1;
    }

pub shape_of-records : goal.shape_of-records
shape_of-records c =
    let q = c.queue-after.auto in
    let n = c.make_room-free.auto in
    let f = c.fill_last-2.auto in
    search rules

pub returns : goal.returns
returns c =
    let a = c.args in
    sent_all a.mss a.stream a.bytes.now a.sender a.records.now a.room.now c.requires.sound c.requires.mss_bound _ c.last_length-last.ensures _ c.needed-new.ensures c.if-new-ge128.false _ _ c.slots_in-slots.ensures c.segments.ensures c.if-slots-segments.false _ c.joins-from.ensures _ c.fill_last-2.ensures _ _ _ c.make_room-free.ensures _ c.queue-after.ensures _ c.with_ring.ensures
