-- `kcp_flush::flush_ack` meets its contract: refused at each test, or done. Assumes nothing.
use Rattle.packing.specs.FlushAck.{writing}
use Rattle.kcp_flush.proofs.Calls.{ack-bad, ack-asks, ack-early, ack-done}
use Rattle.std.proofs.Common.{ap}
use Rattle.std.proofs.Common.{not}
use Rattle.kcp_flush.proofs.flush_ack.Goals as goal

pub returns-then-not-ack_fits : goal.returns-then-not-ack_fits
returns-then-not-ack_fits c =
    let a = c.args in
    let w = writing a.waiting.now a.out.now a.lengths.now in
    rw c.unsent.ensures (ack-bad a.block a.acks.now w c.ack_fits.ensures (ap not c.if-not-ack_fits.true))

pub returns-then-not-block : goal.returns-then-not-block
returns-then-not-block c =
    let a = c.args in
    let w = writing a.waiting.now a.out.now a.lengths.now in
    rw c.unsent-then-not-block.ensures (ack-early a.block a.acks.now w c.ack_fits.ensures (ap not c.if-not-ack_fits.false) c.if-not-block.true)

pub flush_ack-requires : goal.flush_ack-requires
flush_ack-requires c =
    let a = c.args in
    let w = writing a.waiting.now a.out.now a.lengths.now in
    let f = ack-asks a.block a.acks.now w c.ack_fits.ensures (ap not c.if-not-ack_fits.false) in
    record {
      settings_fit = f.0.settings;
      ack_list_fits = f.0.acklist;
      acks_in_bounds = f.1.0;
      waiting_len = f.1.1;
    }

pub returns : goal.returns
returns c =
    let a = c.args in
    let w = writing a.waiting.now a.out.now a.lengths.now in
    ack-done a.block a.acks.now w c.ack_fits.ensures (ap not c.if-not-ack_fits.false) c.if-not-block.false c.flush_ack.ensures
