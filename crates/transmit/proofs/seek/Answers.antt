-- `transmit::seek` meets its contract: what stands at the index where the search ends. Assumes nothing.
use native.Mathlib.Omega.{arith}
use Rattle.transmit.proofs.Run.{none-met, is-met, is_past}
use Rattle.transmit.proofs.seek.Goals as goal

pub returns-then-ring-at : goal.returns-then-ring-at
returns-then-ring-at c =
    let a = c.args in
    none-met a.sn a.ring a.records.now _ c.seek_index-at.ensures c.if-ring-at.true

pub returns-then-number_at-sn : goal.returns-then-number_at-sn
returns-then-number_at-sn c =
    let a = c.args in
    is_past a.sn a.ring a.records.now _ c.seek_index-at.ensures (omega arith) c.slots_in.ensures c.place_of-q.ensures c.number_at.ensures c.if-number_at-sn.true

pub returns : goal.returns
returns c =
    let a = c.args in
    is-met a.sn a.ring a.records.now _ c.seek_index-at.ensures (omega arith) c.slots_in.ensures c.place_of-q.ensures c.number_at.ensures c.if-number_at-sn.false
