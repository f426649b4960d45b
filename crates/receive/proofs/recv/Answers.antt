-- `receive::recv` meets its contract. Assumes nothing.
use native.Mathlib.Omega.{arith}
use mathlib.Core.Path.{sym}
use Rattle.ring.specs.Lists.{lists}
use Rattle.receive.proofs.Fronts.{segments_in, size-summed, peek-empty, peek-expects, peek_whole, recv-empty, recv-expects, recv-longer, recv_whole}
use Rattle.receive.proofs.recv.Goals as goal

pub returns-then-ring-eq0 : goal.returns-then-ring-eq0
returns-then-ring-eq0 c =
    let a = c.args in
    recv-empty a.receiver (lists a.records.now a.room.now) a.buf.now (peek-empty a.receiver a.records.now c.if-ring-eq0.true)

pub returns-then-expecting : goal.returns-then-expecting
returns-then-expecting c =
    let a = c.args in
    recv-expects a.receiver (lists a.records.now a.room.now) a.buf.now
    (peek-expects a.receiver a.records.now c.if-ring-eq0.false _ c.frg_at.ensures (sym c.expecting.ensures) c.if-expecting.true)

pub returns-then-buf-message : goal.returns-then-buf-message
returns-then-buf-message c =
    let a = c.args in
    recv-longer a.receiver (lists a.records.now a.room.now) a.buf.now _ (peek_whole a.receiver a.records.now c.if-ring-eq0.false _ c.frg_at.ensures (sym c.expecting.ensures) c.if-expecting.false _ c.message_of-message.ensures) c.if-buf-message.true

pub hand_out-requires : goal.hand_out-requires
hand_out-requires c =
    let a = c.args in
    let m = c.message_of-message.ensures in
    let n = size-summed a.receiver.ring a.records.now _ m in
    record {
      good = c.requires;
      count_le_queued = segments_in a.receiver.ring a.records.now _ m;
      count_in_bounds = omega arith;
    }

pub returns : goal.returns
returns c =
    let a = c.args in
    let h = c.hand_out.ensures in
    recv_whole a.receiver (lists a.records.now a.room.now) a.buf.now _ (peek_whole a.receiver a.records.now c.if-ring-eq0.false _ c.frg_at.ensures (sym c.expecting.ensures) c.if-expecting.false _ c.message_of-message.ensures) c.if-buf-message.false _ c.message_of-message.ensures.segments_is _ h.value _ h.buf_after
