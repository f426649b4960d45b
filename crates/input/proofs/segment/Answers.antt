-- `input::segment` meets its contract. Assumes nothing.
use native.Mathlib.Omega.{arith}
use mathlib.Core.List.{[]}
use Rattle.ring.specs.Lists.{lists}
use Rattle.input.proofs.Segments.{met_by, segment-stops, segment-goes, within, payload_is, payload-short, place-fits, adopted-good, adopted-lies, begun-good, begun-lies, frg-small, ensured}
use Rattle.input.proofs.segment.Goals as goal

pub returns-in-Err : goal.returns-in-Err
returns-in-Err c = let a = c.args in let k = c.adopt-known.ensures in
    record {
      by_index = λ room. segment-stops a.datagram.now a.at c.read_header-h.ensures (met_by a.walk (lists a.rcv_records.now a.rcv_room.now) a.acks.now a.snd_records.now room) c.judge-verdict.ensures c.in-Err.is k;
      good_2 = adopted-good _ a.walk.block k c.requires.good;
      lies_2 = adopted-lies _ a.walk.block k c.requires.lies;
      skipped_bound_2 = omega arith;
    }

pub overflow_add-from : goal.overflow_add-from
overflow_add-from c = let a = c.args in place-fits a.datagram.now c.requires.at_in_bounds c.requires.datagram_len_bound

pub overflow_add-next : goal.overflow_add-next
overflow_add-next c = let a = c.args in place-fits a.datagram.now (within a.datagram.now a.at c.read_header-h.ensures (met_by a.walk (lists a.rcv_records.now a.rcv_room.now) a.acks.now a.snd_records.now []) c.judge-verdict.ensures c.in-Ok.is c.requires.at_in_bounds) c.requires.datagram_len_bound

pub begin-requires : goal.begin-requires
begin-requires c = let a = c.args in adopted-lies _ a.walk.block c.adopt-known.ensures c.requires.lies

pub slice_bounds-act-end : goal.slice_bounds-act-end
slice_bounds-act-end c = let a = c.args in within a.datagram.now a.at c.read_header-h.ensures (met_by a.walk (lists a.rcv_records.now a.rcv_room.now) a.acks.now a.snd_records.now []) c.judge-verdict.ensures c.in-Ok.is c.requires.at_in_bounds

pub act-requires : goal.act-requires
act-requires c = let a = c.args in let k = c.adopt-known.ensures in let g = c.begin.ensures in let w = within a.datagram.now a.at c.read_header-h.ensures (met_by a.walk (lists a.rcv_records.now a.rcv_room.now) a.acks.now a.snd_records.now []) c.judge-verdict.ensures c.in-Ok.is c.requires.at_in_bounds in
    record {
      good = begun-good _ _ a.snd_records.now g (adopted-good _ a.walk.block k c.requires.good);
      lies = begun-lies _ _ a.snd_records.now g (adopted-lies _ a.walk.block k c.requires.lies);
      payload_len_bound = payload-short a.datagram.now a.at _ w c.requires.datagram_len_bound;
      acks_len_bound = c.requires.acks_len_bound;
      skipped_bound = c.requires.skipped_bound;
    }

pub returns : goal.returns
returns c = let a = c.args in let h = c.read_header-h in
    let r = ensured a.datagram.now a.at c.requires.at_in_bounds c.requires.datagram_len_bound (frg-small a.datagram.now a.at h.ensures (omega arith)) a.walk _ (lists a.rcv_records.now a.rcv_room.now) (lists _ _) a.acks.now _ a.snd_records.now _ _ c.requires.good c.requires.lies (λ room. segment-goes a.datagram.now a.at h.ensures (met_by a.walk (lists a.rcv_records.now a.rcv_room.now) a.acks.now a.snd_records.now room) c.judge-verdict.ensures c.in-Ok.is c.adopt-known.ensures (c.begin.ensures room) (payload_is a.datagram.now a.at _) (c.act.ensures room)) in
    record {
      by_index = r.0;
      good_2 = r.1.0;
      lies_2 = r.1.1.0;
      skipped_bound_2 = r.1.1.1;
    }
