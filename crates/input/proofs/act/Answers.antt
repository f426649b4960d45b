-- `input::act` meets its contract. Assumes nothing.
use mathlib.Core.Path.{refl}
use Rattle.ring.specs.Lists.{lists}
use Rattle.snd_ring.specs.Store.{store_of}
use Rattle.input.proofs.Effects.{did-push, did-ack, did-ask, did-tell}
use Rattle.input.proofs.act.Goals as goal

pub returns-in-Push : goal.returns-in-Push
returns-in-Push c = let a = c.args in λ room. did-push a.kind a.h a.payload.now (record { block = a.walk.block; latest = a.walk.latest; skipped = a.walk.skipped; rcv = lists a.rcv_records.now a.rcv_room.now; acks = a.acks.now; snd = store_of 8 (lists a.snd_records.now room) }) c.in-Push.is (c.push.ensures (store_of 8 (lists a.snd_records.now room)))

pub returns-in-Ack : goal.returns-in-Ack
returns-in-Ack c = let a = c.args in λ room. did-ack a.kind a.h a.payload.now (record { block = a.walk.block; latest = a.walk.latest; skipped = a.walk.skipped; rcv = lists a.rcv_records.now a.rcv_room.now; acks = a.acks.now; snd = store_of 8 (lists a.snd_records.now room) }) c.in-Ack.is (c.ack.ensures (lists a.rcv_records.now a.rcv_room.now) a.acks.now room)

pub returns-in-Ask : goal.returns-in-Ask
returns-in-Ask c = let a = c.args in λ room. did-ask a.kind a.h a.payload.now (record { block = a.walk.block; latest = a.walk.latest; skipped = a.walk.skipped; rcv = lists a.rcv_records.now a.rcv_room.now; acks = a.acks.now; snd = store_of 8 (lists a.snd_records.now room) }) c.in-Ask.is (rw c.ask.ensures)

pub returns-in-Tell : goal.returns-in-Tell
returns-in-Tell c = let a = c.args in λ room. did-tell a.kind a.h a.payload.now (record { block = a.walk.block; latest = a.walk.latest; skipped = a.walk.skipped; rcv = lists a.rcv_records.now a.rcv_room.now; acks = a.acks.now; snd = store_of 8 (lists a.snd_records.now room) }) c.in-Tell.is refl
