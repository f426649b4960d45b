-- `kcp_receive::set_wndsize` meets its contract. Assumes nothing.
use Rattle.ring.specs.Lists.{lists}
use Rattle.receive.proofs.Exact.{own-receiver, fits-tested}
use Rattle.kcp_receive.proofs.Outcomes.{unset, windowed}
use Rattle.std.proofs.Common.{ap}
use Rattle.std.proofs.Common.{not}
use Rattle.kcp_receive.proofs.set_wndsize.Goals as goal

pub fits-requires : goal.fits-requires
fits-requires c = own-receiver _ c.own_numbers.ensures

pub returns-then-not-fits : goal.returns-then-not-fits
returns-then-not-fits c =
    let a = c.args in
    unset a.block (lists a.records.now a.room.now) (fits-tested _ c.own_numbers.ensures (lists a.records.now a.room.now) c.fits.ensures.value) (ap not c.if-not-fits.true) a.sndwnd a.rcvwnd _ c.bad_pool.ensures

pub returns : goal.returns
returns c =
    let a = c.args in
    windowed a.block (lists a.records.now a.room.now) (fits-tested _ c.own_numbers.ensures (lists a.records.now a.room.now) c.fits.ensures.value) (ap not c.if-not-fits.false) a.sndwnd a.rcvwnd _ c.set_wndsize.ensures
