-- `due::size_run` meets its contract. Assumes nothing.
use native.Mathlib.Omega.{arith}
use Prim.Native.Nat.{ℕ, ◌≤◌}
use mathlib.Core.Path.{refl, sym, ◌∙◌}
use lib.ListN.{get_or}
use Rattle.ring.specs.Lists.{lists}
use Rattle.snd_ring.specs.Store.{store_of}
use Rattle.flight.proofs.Places.{each_next}
use Rattle.due.proofs.Sizing.{sizes-next, sizes-end}
use Rattle.due.proofs.size_run.Goals as goal

pub loop-q-init : goal.loop-q-init
loop-q-init c =
    (omega arith, omega arith, c.requires.each, λ room. refl)

pub size_at-p-requires : goal.size_at-p-requires
size_at-p-requires c =
    let l = c.loop-q in
    let e = each_next (λ (q : ℕ). get_or c.args.records.now q 0 ≤ 1477) l.q c.args.to c.loop-q-test.true l.invariant.2 in
    record {
      q_lt_slots = omega arith;
      q_bound = e.0;
      used_bound = omega arith;
      count_bound = omega arith;
    }

pub loop-q-preserved : goal.loop-q-preserved
loop-q-preserved c =
    let l = c.loop-q in
    let e = each_next (λ (q : ℕ). get_or c.args.records.now q 0 ≤ 1477) l.q c.args.to c.loop-q-test.true l.invariant.2 in
    let g = c.size_at-p.ensures.used_bound_2 in (
      omega arith,
      omega arith,
      e.1,
      λ room. sizes-next c.args.mtu (store_of 8 (lists c.args.records.now room)) l.q c.args.to l.p c.args.pace (omega arith) (c.size_at-p.ensures.by_index room) ∙ l.invariant.3 room,
    )

pub returns : goal.returns
returns c =
    let l = c.loop-q in
    record {
      by_index = λ room. sym (sizes-end c.args.mtu (store_of 8 (lists c.args.records.now room)) l.q c.args.to l.p c.args.pace (omega arith)) ∙ l.invariant.3 room;
      used_bound_2 = (omega arith, omega arith);
    }
