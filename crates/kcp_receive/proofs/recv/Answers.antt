-- `kcp_receive::recv` meets its contract. Assumes nothing.
use mathlib.Core.Path.{refl}
use Rattle.ring.specs.Lists.{lists}
use Rattle.receive.proofs.Exact.{own-receiver, fits-tested}
use Rattle.kcp_receive.proofs.Outcomes.{unreceived, refuses, received}
use Rattle.std.proofs.Common.{ap}
use Rattle.std.proofs.Common.{not}
use Rattle.kcp_receive.proofs.recv.Goals as goal

pub fits-requires : goal.fits-requires
fits-requires c = own-receiver _ c.own_numbers.ensures

pub returns-then-not-fits : goal.returns-then-not-fits
returns-then-not-fits c =
    let a = c.args in
    unreceived a.block (lists a.records.now a.room.now) (fits-tested _ c.own_numbers.ensures (lists a.records.now a.room.now) c.fits.ensures.value) (ap not c.if-not-fits.true) a.buf.now _ refl

pub recv-out-requires : goal.recv-out-requires
recv-out-requires c = c.fits.ensures.good c.if-not-fits.false

pub returns-in_default : goal.returns-in_default
returns-in_default c =
    let a = c.args in
    refuses a.block (lists a.records.now a.room.now) (fits-tested _ c.own_numbers.ensures (lists a.records.now a.room.now) c.fits.ensures.value) (ap not c.if-not-fits.false) a.buf.now c.recv-out.result.receiver _ c.recv-out.ensures c.in_default.is

pub shape_of-buf : goal.shape_of-buf
shape_of-buf c = c.recv-out.auto.buf

pub returns : goal.returns
returns c =
    let a = c.args in
    received a.block (lists a.records.now a.room.now) (fits-tested _ c.own_numbers.ensures (lists a.records.now a.room.now) c.fits.ensures.value) (ap not c.if-not-fits.false) a.buf.now c.recv-out.result.receiver _ c.recv-out.ensures c.in-Ok.is _ c.recovered-probe.ensures _ _ refl refl
