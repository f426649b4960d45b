-- `receive::peeksize` meets its contract. Assumes nothing.
use mathlib.Core.Path.{sym, ap}
use Rattle.receive.specs.Memory.{length_answer}
use Rattle.receive.proofs.Fronts.{peek-empty, peek-expects, peek_whole}
use Rattle.receive.proofs.peeksize.Goals as goal

pub returns-then-ring-eq0 : goal.returns-then-ring-eq0
unfolding length_answer
returns-then-ring-eq0 c = let a = c.args in ap length_answer (sym (peek-empty a.receiver a.records.now c.if-ring-eq0.true))

pub returns-then-expecting : goal.returns-then-expecting
unfolding length_answer
returns-then-expecting c =
    let a = c.args in
    ap length_answer (sym (peek-expects a.receiver a.records.now c.if-ring-eq0.false _ c.frg_at.ensures (sym c.expecting.ensures) c.if-expecting.true))

pub returns : goal.returns
unfolding length_answer
returns c =
    let a = c.args in
    ap length_answer (sym (peek_whole a.receiver a.records.now c.if-ring-eq0.false _ c.frg_at.ensures (sym c.expecting.ensures) c.if-expecting.false _ c.message_of-message.ensures))
