-- `front_put` meets its contract: what waits, the acks, the ask and the tell are put in turn. Assumes nothing.
use mathlib.Core.Path.{ap}
use native.Mathlib.Omega.{arith}
use Rattle.wire.specs.Commands.{ask, tell}
use Rattle.flushing.specs.Probing.{ask_set, tell_set}
use Rattle.packing.specs.declared.packer.Packer.{Packer}
use Rattle.packing.proofs.Fronts.{fronting-start, fronting-fits, fronting-acks, fronting-probe-fits, fronting-probe, fronting-end}
use Rattle.packing.proofs.front.front_put.Goals as goal

pub put_acks-requires : goal.put_acks-requires
put_acks-requires c =
    let args = c.args in
    let g = fronting-start args.told args.bits args.acks.now args.n args.mtu args.held args.waiting.now args.out.now args.lengths.now _ c.requires.mtu_bound c.requires.n_bound c.requires.waiting_len c.requires.held_bound c.requires.n_in_bounds_2 c.requires.n_in_bounds_3 c.put_waiting.ensures in
    record {
      from_le_to = omega arith;
      to_in_bounds = c.requires.n_in_bounds;
      from_in_bounds = omega (arith, (fronting-fits g).0);
    }

pub acks_cut-a-requires : goal.acks_cut-a-requires
acks_cut-a-requires c =
    let args = c.args in
    let g = fronting-start args.told args.bits args.acks.now args.n args.mtu args.held args.waiting.now args.out.now args.lengths.now _ c.requires.mtu_bound c.requires.n_bound c.requires.waiting_len c.requires.held_bound c.requires.n_in_bounds_2 c.requires.n_in_bounds_3 c.put_waiting.ensures in
    let e = c.new.ensures in
    let u = ap (λ (q : Packer). q.used) e in
    let k = ap (λ (q : Packer). q.count) e in
    record {
      mtu_bound = c.requires.mtu_bound;
      n_bound = c.requires.n_bound;
      used_bound = omega (arith, u, c.requires.held_bound);
      start_bound = omega (arith, ap (λ (q : Packer). q.start) e);
      n_in_bounds = rw (u, k) (omega (arith, (fronting-fits g).1));
    }

pub probe_put-b-requires : goal.probe_put-b-requires
probe_put-b-requires c =
    let args = c.args in
    let g = fronting-start args.told args.bits args.acks.now args.n args.mtu args.held args.waiting.now args.out.now args.lengths.now _ c.requires.mtu_bound c.requires.n_bound c.requires.waiting_len c.requires.held_bound c.requires.n_in_bounds_2 c.requires.n_in_bounds_3 c.put_waiting.ensures in
    let f = fronting-acks _ _ _ _ g c.new.ensures c.acks_cut-a.ensures.value c.put_acks.ensures c.acks_cut-a.ensures.lengths_after in
    let r = fronting-probe-fits ask (ask_set args.bits) _ _ c.ask_set.ensures c.probe_head-asking.ensures _ f in
    record {
      used_bound = r.0;
      used_bound_2 = r.1.0;
      head_in_bounds = r.1.1.0;
      head_in_bounds_2 = r.1.1.1;
    }

pub probe_put-requires : goal.probe_put-requires
probe_put-requires c =
    let args = c.args in
    let g = fronting-start args.told args.bits args.acks.now args.n args.mtu args.held args.waiting.now args.out.now args.lengths.now _ c.requires.mtu_bound c.requires.n_bound c.requires.waiting_len c.requires.held_bound c.requires.n_in_bounds_2 c.requires.n_in_bounds_3 c.put_waiting.ensures in
    let f = fronting-acks _ _ _ _ g c.new.ensures c.acks_cut-a.ensures.value c.put_acks.ensures c.acks_cut-a.ensures.lengths_after in
    let h = fronting-probe ask (ask_set args.bits) _ _ c.ask_set.ensures c.probe_head-asking.ensures _ f _ _ _ c.probe_put-b.ensures.value c.probe_put-b.ensures.out_after c.probe_put-b.ensures.lengths_after in
    let r = fronting-probe-fits tell (tell_set args.bits) _ _ c.tell_set.ensures c.probe_head-telling.ensures _ h in
    record {
      used_bound = r.0;
      used_bound_2 = r.1.0;
      head_in_bounds = r.1.1.0;
      head_in_bounds_2 = r.1.1.1;
    }

pub shape_of-out : goal.shape_of-out
shape_of-out c = omega (arith, c.probe_put.auto, c.probe_put-b.auto, c.put_acks.auto, c.put_waiting.auto)

pub returns : goal.returns
returns c =
    let args = c.args in
    let g = fronting-start args.told args.bits args.acks.now args.n args.mtu args.held args.waiting.now args.out.now args.lengths.now _ c.requires.mtu_bound c.requires.n_bound c.requires.waiting_len c.requires.held_bound c.requires.n_in_bounds_2 c.requires.n_in_bounds_3 c.put_waiting.ensures in
    let f = fronting-acks _ _ _ _ g c.new.ensures c.acks_cut-a.ensures.value c.put_acks.ensures c.acks_cut-a.ensures.lengths_after in
    let h = fronting-probe ask (ask_set args.bits) _ _ c.ask_set.ensures c.probe_head-asking.ensures _ f _ _ _ c.probe_put-b.ensures.value c.probe_put-b.ensures.out_after c.probe_put-b.ensures.lengths_after in
    let r = fronting-end (fronting-probe tell (tell_set args.bits) _ _ c.tell_set.ensures c.probe_head-telling.ensures _ h _ _ _ c.probe_put.ensures.value c.probe_put.ensures.out_after c.probe_put.ensures.lengths_after) in
    record {
      value = r.0;
      out_after = r.1.0;
      lengths_after = r.1.1;
    }
