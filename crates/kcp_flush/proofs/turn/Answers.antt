-- `kcp_flush::turn` meets its contract: refused at each test, or done. Assumes nothing.
use Rattle.ring.specs.Lists.{lists}
use Rattle.packing.specs.FlushAck.{writing}
use Rattle.kcp_flush.proofs.Calls.{turn-bad, turn-asks, turn-early, turn-done}
use Rattle.std.proofs.Common.{ap}
use Rattle.std.proofs.Common.{not}
use Rattle.kcp_flush.proofs.turn.Goals as goal

pub returns-then-not-flush_fits : goal.returns-then-not-flush_fits
returns-then-not-flush_fits c =
    let a = c.args in
    let l = lists a.records.now a.room.now in
    let w = writing a.waiting.now a.out.now a.lengths.now in
    rw c.unsent.ensures (turn-bad a.block l a.acks.now w a.time c.flush_fits.ensures (ap not c.if-not-flush_fits.true))

pub returns-then-early : goal.returns-then-early
returns-then-early c =
    let a = c.args in
    let l = lists a.records.now a.room.now in
    let w = writing a.waiting.now a.out.now a.lengths.now in
    rw c.unsent-then-early.ensures (turn-early a.block l a.acks.now w a.time c.flush_fits.ensures (ap not c.if-not-flush_fits.false) c.early.ensures c.if-early.true)

pub turn-requires : goal.turn-requires
turn-requires c =
    let a = c.args in
    let l = lists a.records.now a.room.now in
    let w = writing a.waiting.now a.out.now a.lengths.now in
    let r = turn-asks a.block l a.acks.now w a.time c.flush_fits.ensures (ap not c.if-not-flush_fits.false) in
    record {
      own_numbers = r.0;
      acks_in_bounds = r.1.0;
      waiting_len = r.1.1.0;
      sound = r.1.1.1;
    }

pub returns : goal.returns
returns c =
    let a = c.args in
    let l = lists a.records.now a.room.now in
    let w = writing a.waiting.now a.out.now a.lengths.now in
    turn-done a.block l a.acks.now w a.time c.flush_fits.ensures (ap not c.if-not-flush_fits.false) c.early.ensures c.if-early.false c.tick_of-tick.ensures c.turn.ensures
