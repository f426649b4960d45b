-- `due::write_at` meets its contract. Assumes nothing.
use native.Mathlib.Omega.{arith}
use Rattle.due.proofs.Writing.{write-gap, write-idle, write-needs, write_done}
use Rattle.std.proofs.Common.{ap}
use Rattle.std.proofs.Common.{not}
use Rattle.due.proofs.write_at.Goals as goal

pub returns-then-not-goes_out : goal.returns-then-not-goes_out
returns-then-not-goes_out c =
    let a = c.args in
    let f = c.requires.fits in
    write-idle a.way.told a.way.pace a.way.dead_link a.way.mtu a.records.now a.room.now a.out.now a.lengths.now a.before.packer a.before.tally a.q c.requires.q_lt_slots f c.record_at.ensures c.flown_by-flown.ensures c.goes_out.ensures (ap not c.if-not-goes_out.true)

pub returns-then-mark-eq0 : goal.returns-then-mark-eq0
returns-then-mark-eq0 c =
    let a = c.args in
    let f = c.requires.fits in
    write-gap a.way.told a.way.pace a.way.dead_link a.way.mtu a.records.now a.room.now a.out.now a.lengths.now a.before.packer a.before.tally a.q c.requires.q_lt_slots f c.if-mark-eq0.true

pub overflow_cast-n : goal.overflow_cast-n
overflow_cast-n c =
    let a = c.args in
    let f = c.requires.fits in
    let w = write-needs a.way.told a.way.pace a.way.dead_link a.way.mtu a.records.now a.room.now a.out.now a.lengths.now a.before.packer a.before.tally a.q c.requires.q_lt_slots f c.record_at.ensures c.flown_by-flown.ensures c.goes_out.ensures (ap not c.if-not-goes_out.false) c.if-mark-eq0.false in
    omega arith

pub put_piece-requires : goal.put_piece-requires
put_piece-requires c =
    let a = c.args in
    let f = c.requires.fits in
    let w = write-needs a.way.told a.way.pace a.way.dead_link a.way.mtu a.records.now a.room.now a.out.now a.lengths.now a.before.packer a.before.tally a.q c.requires.q_lt_slots f c.record_at.ensures c.flown_by-flown.ensures c.goes_out.ensures (ap not c.if-not-goes_out.false) c.if-mark-eq0.false in
    record {
      q_in_bounds = w.1;
      n_bound = omega arith;
      n_in_bounds = w.3;
    }

pub overflow_add-n : goal.overflow_add-n
overflow_add-n c =
    let a = c.args in
    let f = c.requires.fits in
    let w = write-needs a.way.told a.way.pace a.way.dead_link a.way.mtu a.records.now a.room.now a.out.now a.lengths.now a.before.packer a.before.tally a.q c.requires.q_lt_slots f c.record_at.ensures c.flown_by-flown.ensures c.goes_out.ensures (ap not c.if-not-goes_out.false) c.if-mark-eq0.false in
    omega arith

pub cut-further-requires : goal.cut-further-requires
cut-further-requires c =
    let a = c.args in
    let f = c.requires.fits in
    let w = write-needs a.way.told a.way.pace a.way.dead_link a.way.mtu a.records.now a.room.now a.out.now a.lengths.now a.before.packer a.before.tally a.q c.requires.q_lt_slots f c.record_at.ensures c.flown_by-flown.ensures c.goes_out.ensures (ap not c.if-not-goes_out.false) c.if-mark-eq0.false in
    record {
      n_bound = w.4;
      used_bound = omega arith;
      n_in_bounds = w.5;
    }

pub returns : goal.returns
returns c =
    let a = c.args in
    let f = c.requires.fits in
    write_done a.way.told a.way.pace a.way.dead_link a.way.mtu a.records.now a.room.now a.out.now a.lengths.now a.before.packer a.before.tally a.q c.requires.q_lt_slots f c.record_at.ensures c.flown_by-flown.ensures c.goes_out.ensures (ap not c.if-not-goes_out.false) c.if-mark-eq0.false c.push_head.ensures c.put_piece.ensures _ c.put_record_at.ensures c.cut-further.ensures.value c.cut-further.ensures.lengths_after c.with_sent.ensures
