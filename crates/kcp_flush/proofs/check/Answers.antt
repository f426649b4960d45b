-- `kcp_flush::check` meets its contract: refused by 15, or the wait. Assumes nothing.
use Rattle.ring.specs.Lists.{lists}
use Rattle.transmit.proofs.Exact.{fits-tested}
use Rattle.kcp_flush.proofs.Calls.{check-bad, check-asks, check_done}
use Rattle.std.proofs.Common.{ap}
use Rattle.std.proofs.Common.{not}
use Rattle.kcp_flush.proofs.check.Goals as goal

pub returns-then-not-fits : goal.returns-then-not-fits
returns-then-not-fits c =
    let a = c.args in
    let l = lists a.records.now a.room.now in
    check-bad a.block l a.current (fits-tested a.block c.own_numbers.ensures l c.fits.ensures) (ap not c.if-not-fits.true)

pub check-requires : goal.check-requires
check-requires c =
    let a = c.args in
    let l = lists a.records.now a.room.now in
    check-asks a.block l a.current (fits-tested a.block c.own_numbers.ensures l c.fits.ensures) (ap not c.if-not-fits.false)

pub returns : goal.returns
returns c =
    let a = c.args in
    let l = lists a.records.now a.room.now in
    check_done a.block l a.current (fits-tested a.block c.own_numbers.ensures l c.fits.ensures) (ap not c.if-not-fits.false) c.check.ensures
