-- `kcp_receive::peeksize` meets its contract. Assumes nothing.
use mathlib.Core.Path.{refl}
use Rattle.ring.specs.Lists.{lists}
use Rattle.receive.proofs.Exact.{good-lies, own-receiver, fits-tested}
use Rattle.kcp_receive.proofs.Outcomes.{unpeeked, peeks}
use Rattle.std.proofs.Common.{ap}
use Rattle.std.proofs.Common.{not}
use Rattle.kcp_receive.proofs.peeksize.Goals as goal

pub fits-requires : goal.fits-requires
fits-requires c = own-receiver _ c.own_numbers.ensures

pub returns-then-not-fits : goal.returns-then-not-fits
returns-then-not-fits c =
    let a = c.args in
    unpeeked a.block (lists a.records.now a.room.now) (fits-tested _ c.own_numbers.ensures (lists a.records.now a.room.now) c.fits.ensures.value) (ap not c.if-not-fits.true) _ refl

pub peeksize-requires : goal.peeksize-requires
peeksize-requires c = good-lies (c.fits.ensures.good c.if-not-fits.false)

pub returns : goal.returns
returns c =
    let a = c.args in
    peeks a.block (lists a.records.now a.room.now) (fits-tested _ c.own_numbers.ensures (lists a.records.now a.room.now) c.fits.ensures.value) (ap not c.if-not-fits.false) _ c.peeksize.ensures
