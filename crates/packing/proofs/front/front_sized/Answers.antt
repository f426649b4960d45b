-- `front_sized` meets its contract: the acks, the ask and the tell are taken in turn. Assumes nothing.
use mathlib.Core.Path.{ap}
use native.Mathlib.Omega.{arith}
use Rattle.flushing.specs.Probing.{ask_set, tell_set}
use Rattle.packing.specs.declared.packer.Packer.{Packer}
use Rattle.packing.proofs.Fronts.{sizing-acks, sizing-fits, sizing-probe, sizing-end}
use Rattle.packing.proofs.front.front_sized.Goals as goal

pub acks_sized-a-requires : goal.acks_sized-a-requires
acks_sized-a-requires c =
    let e = c.new.ensures in
    omega (arith, ap (λ (q : Packer). q.start) e, ap (λ (q : Packer). q.used) e, ap (λ (q : Packer). q.count) e)

pub probe_sized-b-requires : goal.probe_sized-b-requires
probe_sized-b-requires c =
    let args = c.args in
    let r = sizing-fits
    (sizing-acks args.n args.bits args.mtu args.held _ _ c.requires.mtu_bound c.requires.n_bound c.requires.held_bound c.new.ensures c.acks_sized-a.ensures) in
    record {
      used_bound = r.0;
      count_bound = r.1;
    }

pub probe_sized-requires : goal.probe_sized-requires
probe_sized-requires c =
    let args = c.args in
    let g = sizing-acks args.n args.bits args.mtu args.held _ _ c.requires.mtu_bound c.requires.n_bound c.requires.held_bound c.new.ensures c.acks_sized-a.ensures in
    let r = sizing-fits (sizing-probe (ask_set args.bits) _ _ _ g c.ask_set.ensures c.probe_sized-b.ensures) in
    record {
      used_bound = r.0;
      count_bound = r.1;
    }

pub returns : goal.returns
returns c =
    let args = c.args in
    let g = sizing-acks args.n args.bits args.mtu args.held _ _ c.requires.mtu_bound c.requires.n_bound c.requires.held_bound c.new.ensures c.acks_sized-a.ensures in
    let h = sizing-probe (ask_set args.bits) _ _ _ g c.ask_set.ensures c.probe_sized-b.ensures in
    let r = sizing-end (sizing-probe (tell_set args.bits) _ _ _ h c.tell_set.ensures c.probe_sized.ensures) in
    record {
      value = r.0;
      used_bound = r.1;
    }
