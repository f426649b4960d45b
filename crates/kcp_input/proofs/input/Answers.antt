-- `kcp_input::input` meets its contract. Assumes nothing.
use Rattle.ring.specs.Lists.{lists}
use Rattle.snd_ring.specs.Store.{store_of}
use Rattle.kcp_input.proofs.Exact.{fits-good, fits-lies, few-acks, some-mss}
use Rattle.kcp_input.proofs.Inputs.{bad_pool, too_big, too_small, reads}
use Rattle.std.proofs.Common.{ap}
use Rattle.std.proofs.Common.{not}
use Rattle.kcp_input.proofs.input.Goals as goal

pub returns-then-not-fits : goal.returns-then-not-fits
returns-then-not-fits c = let a = c.args in bad_pool a.block (lists a.rcv_records.now a.rcv_room.now) a.acks.now a.waiting.now (lists a.snd_records.now a.snd_room.now) a.datagram.now c.fits.ensures.value (ap not c.if-not-fits.true) _ c.unread.ensures

pub returns-then-datagram-gt-MTU_MOST : goal.returns-then-datagram-gt-MTU_MOST
returns-then-datagram-gt-MTU_MOST c = let a = c.args in too_big a.block (lists a.rcv_records.now a.rcv_room.now) a.acks.now a.waiting.now (lists a.snd_records.now a.snd_room.now) a.datagram.now c.fits.ensures.value (ap not c.if-not-fits.false) c.if-datagram-gt-MTU_MOST.true _ c.unread-then-datagram-gt-MTU_MOST.ensures

pub returns-then-datagram : goal.returns-then-datagram
returns-then-datagram c = let a = c.args in too_small a.block (lists a.rcv_records.now a.rcv_room.now) a.acks.now a.waiting.now (lists a.snd_records.now a.snd_room.now) a.datagram.now c.fits.ensures.value (ap not c.if-not-fits.false) c.if-datagram-gt-MTU_MOST.false c.if-datagram.true _ c.unread-then-datagram.ensures

pub read-requires : goal.read-requires
read-requires c = let f = c.fits.ensures.input_fits c.if-not-fits.false in
    record {
      good = fits-good f;
      lies = fits-lies f;
      acks_len_bound = few-acks f;
      datagram_len_bound = c.if-datagram-gt-MTU_MOST.false;
      mss_nonzero = some-mss f;
    }

pub returns : goal.returns
returns c = let a = c.args in let w = c.read.ensures in reads a.block (lists a.rcv_records.now a.rcv_room.now) a.acks.now a.waiting.now (lists a.snd_records.now a.snd_room.now) a.datagram.now c.fits.ensures.value (ap not c.if-not-fits.false) c.if-datagram-gt-MTU_MOST.false c.if-datagram.false _ (lists _ _) _ (store_of 8 (lists _ a.snd_room.now)) (w.by_index a.snd_room.now) w.skipped_bound
