-- `transmit::raise_run` meets its contract: what is left of the run from q on is the whole. Assumes nothing.
use native.Mathlib.Omega.{arith}
use Prim.Native.Nat.{◌+◌}
use mathlib.Core.Path.{sym, ◌∙◌}
use Rattle.ring.specs.Lists.{lists}
use Rattle.snd_ring.specs.Store.{store_of}
use Rattle.transmit.proofs.Portions.{run_step, run_end}
use Rattle.transmit.proofs.raise_run.Goals as goal

pub loop-q-preserved : goal.loop-q-preserved
loop-q-preserved c =
    let l = c.loop-q in
    let a = c.args in
    λ room. run_step a.latest.sn a.latest.ts l.q c.min-n.result a.to (store_of 8 (lists l.records room)) c.min-n.ensures (c.raise_part.ensures room) ∙ l.invariant room

pub returns : goal.returns
returns c =
    let a = c.args in
    let l = c.loop-q in
    λ room. sym (run_end a.latest.sn a.latest.ts l.q a.to (store_of 8 (lists l.records room)) (omega arith)) ∙ l.invariant room

pub returns-2 : goal.returns-2
returns-2 c =
    let a = c.args in
    let l = c.loop-q in
    λ room. sym (run_end a.latest.sn a.latest.ts (l.q + 64) a.to (store_of 8 (lists c.raise_part.new.records room)) (omega arith))
    ∙ run_step a.latest.sn a.latest.ts l.q c.min-n.result a.to (store_of 8 (lists l.records room)) c.min-n.ensures (c.raise_part.ensures room) ∙ l.invariant room
