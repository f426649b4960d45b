-- `flight::tm_run` meets its contract. Assumes nothing.
use native.Mathlib.Omega.{arith}
use Prim.Native.Nat.{ℕ}
use mathlib.Core.Path.{◌≡◌, sym, ap, ◌∙◌}
use mathlib.Core.List.{List, []}
use Rattle.ring.specs.Lists.{lists}
use Rattle.snd_ring.specs.Store.{store_of}
use Rattle.flight.specs.declared.Reckoning.{Reckoning}
use Rattle.flight.specs.Memory.{reckoned_of}
use Rattle.flight.proofs.Steps.{tm-next, tm-end}
use Rattle.flight.proofs.tm_run.Goals as goal

pub loop-q-init : goal.loop-q-init
loop-q-init c =
    let e = c.reckoned-w.ensures in
    (rw e, λ room. rw e)

pub tm_step-w-requires : goal.tm_step-w-requires
tm_step-w-requires c =
    record {
      q_lt_slots = omega arith;
      w_value = c.loop-q.invariant.0;
    }

pub loop-q-preserved : goal.loop-q-preserved
loop-q-preserved c =
    let l = c.loop-q in
    let a = c.args in
    let e = c.tm_step-w.ensures in
    let tm : (room : List ℕ) → c.tm_step-w.result.tm ≡ _ = λ room. ap (λ (w : Reckoning). w.tm) (e room) in (
      e [] ∙ ap (reckoned_of a.current) (sym (tm [])),
      λ room. tm-next a.current (store_of 8 (lists a.records.now room)) l.q a.to l.w.tm (omega arith) (tm room) ∙ l.invariant.1 room,
    )

pub returns : goal.returns
returns c =
    let l = c.loop-q in
    let a = c.args in
    λ room. sym (tm-end a.current (store_of 8 (lists a.records.now room)) l.q a.to l.w.tm (omega arith)) ∙ l.invariant.1 room
