-- `probe_put` meets its contract: a copy and a cut, or nothing. Assumes nothing.
use Prim.Native.Nat.{◌+◌}
use mathlib.Core.Path.{◌≡◌}
use native.Mathlib.Omega.{arith}
use lib.ListN.{length}
use Rattle.ring.proofs.Rows.{by_copy}
use Rattle.packing.proofs.AckBytes.{probe-needs, probe-done, probe-skip}
use Rattle.packing.proofs.probes.probe_put.Goals as goal

pub copy-requires : goal.copy-requires
copy-requires c =
    let args = c.args in
    let pre = c.requires in
    let size : length args.head ≡ 24 = omega (arith, c.well_formed) in
    let rules = probe-needs args.mtu args.p args.on args.head size c.if-on.true _ _ pre.head_in_bounds pre.head_in_bounds_2 in
    omega (arith, rules.0)

pub cut-requires : goal.cut-requires
cut-requires c =
    let args = c.args in
    let pre = c.requires in
    let size : length args.head ≡ 24 = omega (arith, c.well_formed) in
    let rules = probe-needs args.mtu args.p args.on args.head size c.if-on.true _ _ pre.head_in_bounds pre.head_in_bounds_2 in
    record {
      n_bound = pre.used_bound;
      used_bound = pre.used_bound_2;
      n_in_bounds = rules.1;
    }

pub returns-then-on : goal.returns-then-on
returns-then-on c =
    let args = c.args in
    let pre = c.requires in
    let size : length args.head ≡ 24 = omega (arith, c.well_formed) in
    let rules = probe-needs args.mtu args.p args.on args.head size c.if-on.true _ _ pre.head_in_bounds pre.head_in_bounds_2 in
    let cut = c.cut.ensures in
    let r = probe-done args.mtu args.p args.on args.head size c.if-on.true _ _ _ _ _ cut.value (by_copy args.out.now args.head _ (args.p.start + args.p.used) (omega (arith, rules.0)) c.copy.ensures) cut.lengths_after in
    record {
      value = r.0;
      out_after = r.1.0;
      lengths_after = r.1.1;
    }

pub returns : goal.returns
returns c =
    let args = c.args in
    let r = probe-skip args.mtu args.p args.on args.head (omega (arith, c.well_formed)) c.if-on.false _ _ in
    record {
      value = r.0;
      out_after = r.1.0;
      lengths_after = r.1.1;
    }
