-- `kcp_send::send` meets its contract: the law of a memory that is not well formed, and of one that is. Assumes nothing.
use mathlib.Core.Path.{refl}
use Rattle.ring.specs.Lists.{lists}
use Rattle.snd_ring.specs.Store.{store_of}
use Rattle.transmit.proofs.Exact.{fits-tested}
use Rattle.send.proofs.Keep.{send-asks}
use Rattle.kcp_send.proofs.Sends.{unsent, held, sent}
use Rattle.std.proofs.Common.{ap}
use Rattle.std.proofs.Common.{not}
use Rattle.kcp_send.proofs.send.Goals as goal

pub returns-then-not-fits : goal.returns-then-not-fits
returns-then-not-fits c =
    let a = c.args in
    let l = lists a.records.now a.room.now in
    unsent a.block l a.bytes.now (fits-tested a.block c.own_numbers.ensures l c.fits.ensures) (ap not c.if-not-fits.true)

pub send-out-requires : goal.send-out-requires
send-out-requires c =
    let a = c.args in
    let l = lists a.records.now a.room.now in
    let r = send-asks a.block l (held a.block l a.bytes.now (fits-tested a.block c.own_numbers.ensures l c.fits.ensures) (ap not c.if-not-fits.false)) in
    record {
      sound = r.0;
      le_mss = r.1.0;
      mss_bound = r.1.1;
    }

pub returns : goal.returns
returns c =
    let a = c.args in
    let l = lists a.records.now a.room.now in
    sent a.block l a.bytes.now (fits-tested a.block c.own_numbers.ensures l c.fits.ensures) (ap not c.if-not-fits.false) _ (store_of 8 (lists _ _)) c.send-out.ensures _ refl
