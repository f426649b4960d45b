-- `send::make_room` meets its contract. Assumes nothing.
use native.Mathlib.Omega.{arith}
use mathlib.Core.Path.{sym}
use Rattle.ring.specs.Lists.{lists}
use Rattle.snd_ring.specs.Store.{store_of}
use Rattle.snd_ring.proofs.Splits.{marks-length}
use Rattle.send.proofs.Spaces.{spaced_close, spaced-keep}
use Rattle.send.proofs.make_room.Goals as goal

pub returns-then-slots_in-used : goal.returns-then-slots_in-used
returns-then-slots_in-used c =
    let a = c.args in
    let m = store_of 8 (lists a.records.now a.room.now) in
    let e = marks-length 8 (lists a.records.now a.room.now) in
    let w = c.close.ensures in
    rw (w.0, w.1, ← e) (sym (spaced_close a.new a.ring m (omega arith)))

pub returns : goal.returns
returns c =
    let a = c.args in
    let m = store_of 8 (lists a.records.now a.room.now) in
    let e = marks-length 8 (lists a.records.now a.room.now) in
    sym (spaced-keep a.new a.ring m (omega arith))
