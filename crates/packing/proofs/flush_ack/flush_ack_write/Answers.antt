-- `flush_ack_write` meets its contract: all acks join what waits, or the first of them follow it out. Assumes nothing.
use mathlib.Core.Path.{refl, ap, ◌∙◌}
use native.Mathlib.Omega.{arith}
use lib.ListN.{length}
use Rattle.packing.specs.declared.packer.Packer.{Packer}
use Rattle.packing.proofs.FlushAcks.{found, waits, sends}
use Rattle.packing.proofs.flush_ack.flush_ack_write.Goals as goal

pub put_acks-requires : goal.put_acks-requires
put_acks-requires c =
    let args = c.args in
    let f = found args.told args.acks.now args.mtu args.n args.held args.waiting.now args.p c.requires.mtu_bound c.requires.waiting_len c.requires.held_bound c.requires.p_value in
    record {
      from_le_to = omega arith;
      to_in_bounds = omega (arith, c.requires.n_in_bounds);
      from_in_bounds = omega (arith, f.sum, f.small, f.idle c.if-p-eq0.true, c.requires.waiting_len);
    }

pub returns-then-p-eq0 : goal.returns-then-p-eq0
returns-then-p-eq0 c =
    let args = c.args in
    let f = found args.told args.acks.now args.mtu args.n args.held args.waiting.now args.p c.requires.mtu_bound c.requires.waiting_len c.requires.held_bound c.requires.p_value in
    waits args.told args.acks.now args.mtu args.n args.held args.waiting.now args.out.now args.lengths.now args.p c.requires.waiting_len c.requires.held_bound f c.if-p-eq0.true _ c.put_acks.ensures

pub overflow_sub-sent : goal.overflow_sub-sent
overflow_sub-sent c =
    let args = c.args in
    let f = found args.told args.acks.now args.mtu args.n args.held args.waiting.now args.p c.requires.mtu_bound c.requires.waiting_len c.requires.held_bound c.requires.p_value in
    omega (arith, (f.whole c.if-p-eq0.false).1)

pub put_waiting-requires : goal.put_waiting-requires
put_waiting-requires c =
    let args = c.args in
    let f = found args.told args.acks.now args.mtu args.n args.held args.waiting.now args.p c.requires.mtu_bound c.requires.waiting_len c.requires.held_bound c.requires.p_value in
    let w = f.whole c.if-p-eq0.false in
    record {
      held_bound = c.requires.held_bound;
      held_in_bounds = omega arith;
      held_in_bounds_2 = omega (arith, f.sum, w.0, w.1, c.requires.start_in_bounds);
    }

pub put_acks-requires-2 : goal.put_acks-requires-2
put_acks-requires-2 c =
    let args = c.args in
    let f = found args.told args.acks.now args.mtu args.n args.held args.waiting.now args.p c.requires.mtu_bound c.requires.waiting_len c.requires.held_bound c.requires.p_value in
    let w = f.whole c.if-p-eq0.false in
    record {
      from_le_to = omega arith;
      to_in_bounds = omega (arith, c.requires.n_in_bounds);
      from_in_bounds = omega (arith, f.sum, w.0, w.1, c.requires.start_in_bounds, c.put_waiting.auto);
    }

pub put_acks-requires-3 : goal.put_acks-requires-3
put_acks-requires-3 c =
    let args = c.args in
    let f = found args.told args.acks.now args.mtu args.n args.held args.waiting.now args.p c.requires.mtu_bound c.requires.waiting_len c.requires.held_bound c.requires.p_value in
    let w = f.whole c.if-p-eq0.false in
    record {
      from_le_to = omega arith;
      to_in_bounds = c.requires.n_in_bounds;
      from_in_bounds = omega (arith, f.small, w.0, w.1, c.requires.waiting_len);
    }

pub acks_cut-requires : goal.acks_cut-requires
acks_cut-requires c =
    let args = c.args in
    let f = found args.told args.acks.now args.mtu args.n args.held args.waiting.now args.p c.requires.mtu_bound c.requires.waiting_len c.requires.held_bound c.requires.p_value in
    let e = c.new.ensures in
    let u = ap (λ (q : Packer). q.used) e in
    let k = ap (λ (q : Packer). q.count) e in
    record {
      mtu_bound = c.requires.mtu_bound;
      n_bound = c.requires.n_bound;
      used_bound = omega (arith, u, c.requires.held_bound);
      start_bound = omega (arith, ap (λ (q : Packer). q.start) e);
      n_in_bounds = rw (u, k) (omega (arith, f.count, ap length f.lengths, c.requires.count_in_bounds));
    }

pub returns : goal.returns
returns c =
    let args = c.args in
    let f = found args.told args.acks.now args.mtu args.n args.held args.waiting.now args.p c.requires.mtu_bound c.requires.waiting_len c.requires.held_bound c.requires.p_value in
    sends args.told args.acks.now args.mtu args.n args.held args.waiting.now args.out.now args.lengths.now args.p c.requires.waiting_len c.requires.held_bound f c.if-p-eq0.false c.requires.start_in_bounds _ refl _ _ _ _
    c.put_waiting.ensures
    c.put_acks-2.ensures
    c.put_acks-3.ensures
    (c.acks_cut.ensures.lengths_after ∙ rw c.new.ensures)
