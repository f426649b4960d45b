-- `transmit::put_back` meets its contract: what is left to write from record i on is the whole. Assumes nothing.
use native.Mathlib.Omega.{arith}
use mathlib.Core.Path.{sym, ◌∙◌}
use lib.ListN.{length}
use Rattle.ring.specs.Lists.{lists}
use Rattle.snd_ring.specs.Store.{store_of}
use Rattle.transmit.proofs.Portions.{back_more, back_end}
use Rattle.transmit.proofs.put_back.Goals as goal

pub loop-i-preserved : goal.loop-i-preserved
loop-i-preserved c =
    let l = c.loop-i in
    let a = c.args in
    λ room. back_more a.flights.now a.q (length a.flights.now) (store_of 8 (lists l.records room)) l.i (omega arith) (c.put_one.ensures room) ∙ l.invariant room

pub returns : goal.returns
returns c =
    let a = c.args in
    let l = c.loop-i in
    λ room. sym (back_end a.flights.now a.q (length a.flights.now) (store_of 8 (lists l.records room)) l.i (omega arith)) ∙ l.invariant room
