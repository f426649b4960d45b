-- `transmit::put_one` meets its contract. Assumes nothing.
use Rattle.transmit.proofs.Portions.{put_none, put_some}
use Rattle.transmit.proofs.put_one.Goals as goal

pub returns-then-records-q-eq0 : goal.returns-then-records-q-eq0
returns-then-records-q-eq0 c =
    let a = c.args in
    λ room. put_none a.f a.records.now room a.q c.requires.q_lt_slots c.if-records-q-eq0.true

pub returns : goal.returns
returns c =
    let a = c.args in
    λ room. put_some a.f a.records.now room a.q c.requires.q_lt_slots c.if-records-q-eq0.false (c.put_number.ensures room)
