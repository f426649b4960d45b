-- `host_flush::check` meets its contract: the law of words that are no block, and of those that are. Assumes nothing.
use Rattle.std.proofs.Common.{sym, refl}
use Rattle.ring.specs.Lists.{lists}
use Rattle.host_flush.proofs.Laws.{check_none, check_done}
use Rattle.host_flush.proofs.check.Goals as goal

pub returns-in_default : goal.returns-in_default
returns-in_default c =
    let a = c.args in
    check_none _ (sym c.in_default.ensures) refl (lists a.records.now a.room.now) a.current a.wait.now

pub returns : goal.returns
returns c =
    let a = c.args in
    check_done _ (sym c.in-Some.ensures.0) refl c.in-Some.ensures.1 (lists a.records.now a.room.now) a.current a.wait.now c.check-answer.ensures.is c.number_of.ensures c.unwrap_or.ensures
