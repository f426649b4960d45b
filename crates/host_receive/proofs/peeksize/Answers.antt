-- `host_receive::peeksize` meets its contract: the law of words that are no block, and of those that are. Assumes nothing.
use Rattle.std.proofs.Common.{sym, refl}
use Rattle.ring.specs.Lists.{lists}
use Rattle.host_receive.proofs.Laws.{peeked_none, peeked}
use Rattle.host_receive.proofs.peeksize.Goals as goal

pub returns-in_default : goal.returns-in_default
returns-in_default c =
    let a = c.args in
    peeked_none _ (sym c.in_default.ensures) refl (lists a.records.now a.room.now) a.length.now

pub returns : goal.returns
returns c =
    let a = c.args in
    peeked _ (sym c.in-Some.ensures.0) refl c.in-Some.ensures.1 (lists a.records.now a.room.now) a.length.now c.peeksize-answer.ensures.is c.number_of.ensures c.unwrap_or.ensures
