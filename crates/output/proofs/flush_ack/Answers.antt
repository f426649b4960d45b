-- `output::flush_ack` meets its contract. Assumes nothing.
use native.Mathlib.Omega.{arith}
use Rattle.packing.specs.FlushAck.{writing}
use Rattle.output.proofs.AckFlush.{ack-refused, ack-sent, ack-small}
use Rattle.output.proofs.flush_ack.Goals as goal

pub returns-in_default : goal.returns-in_default
returns-in_default c =
    let a = c.args in
    rw c.too_small.ensures
    (ack-refused a.block a.acks.now (writing a.waiting.now a.out.now a.lengths.now) c.told.ensures c.flush_ack-packed.ensures c.in_default.not-Ok)

pub overflow_cast-rest : goal.overflow_cast-rest
overflow_cast-rest c =
    let a = c.args in
    let p = c.requires in
    let h = ack-small a.block a.acks.now (writing a.waiting.now a.out.now a.lengths.now) c.told.ensures c.flush_ack-packed.ensures c.in-Ok.is
    p.settings_fit.mtu.high p.ack_list_fits.waiting p.waiting_len in
    omega arith

pub returns : goal.returns
returns c =
    let a = c.args in
    ack-sent a.block a.acks.now (writing a.waiting.now a.out.now a.lengths.now) c.told.ensures c.flush_ack-packed.ensures c.in-Ok.is
