-- `kcp_receive::move_buf` meets its contract. Assumes nothing.
use mathlib.Core.Path.{refl}
use Rattle.ring.specs.Lists.{lists}
use Rattle.receive.proofs.Exact.{good-lies, own-receiver, fits-tested}
use Rattle.kcp_receive.proofs.Outcomes.{unmoved, moved}
use Rattle.std.proofs.Common.{ap}
use Rattle.std.proofs.Common.{not}
use Rattle.kcp_receive.proofs.move_buf.Goals as goal

pub fits-requires : goal.fits-requires
fits-requires c = own-receiver _ c.own_numbers.ensures

pub returns-then-not-fits : goal.returns-then-not-fits
returns-then-not-fits c =
    let a = c.args in
    unmoved a.block (lists a.records.now a.room.now) (fits-tested _ c.own_numbers.ensures (lists a.records.now a.room.now) c.fits.ensures.value) (ap not c.if-not-fits.true) _ c.bad_pool.ensures

pub move_buf-receiver-requires : goal.move_buf-receiver-requires
move_buf-receiver-requires c = good-lies (c.fits.ensures.good c.if-not-fits.false)

pub returns : goal.returns
returns c =
    let a = c.args in
    moved a.block (lists a.records.now a.room.now) (fits-tested _ c.own_numbers.ensures (lists a.records.now a.room.now) c.fits.ensures.value) (ap not c.if-not-fits.false) _ _ c.move_buf-receiver.ensures refl
