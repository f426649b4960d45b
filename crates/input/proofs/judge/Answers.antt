-- `input::judge` meets its contract. Assumes nothing.
use mathlib.Core.Path.{sym, ap, ◌∙◌}
use Rattle.std.specs.Prelude.{Err}
use Rattle.std.proofs.lemmas.Result.{err_from_is_err_and}
use Rattle.input.specs.Segment.{of_command}
use Rattle.input.proofs.Judging.{judged-conv, judged-long, judged_kind}
use Rattle.input.proofs.judge.Goals as goal

pub returns-then-differs : goal.returns-then-differs
returns-then-differs c = let a = c.args in judged-conv a.own a.waiting a.h a.left (sym c.differs.ensures ∙ c.if-differs.true)

pub returns-then-left-h : goal.returns-then-left-h
returns-then-left-h c = let a = c.args in judged-long a.own a.waiting a.h a.left (sym c.differs.ensures ∙ c.if-differs.false) c.if-left-h.true

pub returns-in_err-try_from : goal.returns-in_err-try_from
returns-in_err-try_from c =
    let a = c.args in
    let r = err_from_is_err_and _ c.from_residual.ensures.1 in
    r.1
    ∙ ap Err r.2
    ∙ ap of_command (sym (c.in_err-try_from.was))
    ∙ ap of_command c.try_from.ensures
    ∙ judged_kind a.own a.waiting a.h a.left (sym c.differs.ensures ∙ c.if-differs.false) c.if-left-h.false

pub returns : goal.returns
returns c =
    let a = c.args in
    ap of_command (sym (c.in_ok-try_from.was) ∙ c.try_from.ensures)
    ∙ judged_kind a.own a.waiting a.h a.left (sym c.differs.ensures ∙ c.if-differs.false) c.if-left-h.false
