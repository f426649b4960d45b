-- `input::read` meets its contract. Assumes nothing.
use mathlib.Core.Path.{refl, ◌∙◌}
use Rattle.ring.specs.Lists.{lists}
use Rattle.snd_ring.specs.Store.{store_of}
use Rattle.input.proofs.Segments.{met_by}
use Rattle.input.proofs.Finish.{read-stops, read_goes}
use Rattle.input.proofs.read.Goals as goal

pub walk_all-met-requires : goal.walk_all-met-requires
walk_all-met-requires c = let p = c.requires in
    record {
      good = p.good;
      lies = p.lies;
      acks_len_bound = p.acks_len_bound;
      skipped_value = refl;
      datagram_len_bound = p.datagram_len_bound;
    }

pub returns-in_default : goal.returns-in_default
returns-in_default c = let a = c.args in
    record {
      by_index = λ room. read-stops a.block (lists a.rcv_records.now a.rcv_room.now) a.acks.now (store_of 8 (lists a.snd_records.now room)) a.datagram.now refl (met_by c.walk_all-met.result.walk (lists _ _) _ _ room) (c.walk_all-met.ensures.by_index room) c.in_default.is;
      skipped_bound = c.walk_all-met.ensures.skipped_bound;
    }

pub grown_by-congestion-requires : goal.grown_by-congestion-requires
grown_by-congestion-requires c = c.requires.mss_nonzero

pub shape_of-rcv_records : goal.shape_of-rcv_records
shape_of-rcv_records c = c.rcv_records-1.given

pub shape_of-rcv_room : goal.shape_of-rcv_room
shape_of-rcv_room c = c.rcv_room-1.given

pub shape_of-acks : goal.shape_of-acks
shape_of-acks c = c.acks-1.given

pub shape_of-snd_records : goal.shape_of-snd_records
shape_of-snd_records c = c.snd_records-2-1.given ∙ c.snd_records-1.given

pub returns : goal.returns
returns c = let a = c.args in
    record {
      by_index = λ room. read_goes a.block (lists a.rcv_records.now a.rcv_room.now) a.acks.now (store_of 8 (lists a.snd_records.now room)) a.datagram.now refl (met_by c.walk_all-met.result.walk (lists _ _) _ _ room) (c.walk_all-met.ensures.by_index room) c.in-Ok.is (c.parse_fastack.ensures room) c.grown_by-congestion.ensures refl;
      skipped_bound = c.walk_all-met.ensures.skipped_bound;
    }
