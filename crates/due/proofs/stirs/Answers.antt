-- `due::stirs` meets its contract. Assumes nothing.
use Rattle.std.proofs.Common.{◌≡◌, true, false, sym, ◌∙◌}
use borrow.Author.Tests.{eq-eqb}
use Rattle.due.proofs.Sizing.{calm}
use Rattle.due.proofs.stirs.Goals as goal
use Rattle.due.proofs.stirs.Goals.{then-record-eq0, else-record-eq0}

never : true ≡ false → ⊥
never e = cc

pub returns-else-not_before : goal.returns-else-not_before
returns-else-not_before c =
    λ room e. elim c.if-record-eq0.branch [
      | then-record-eq0 w ↦ absurd (never (sym (eq-eqb _ 0 w.if-record-eq0.true) ∙ sym w.value-is ∙ c.if-not_before.false))
      | else-record-eq0 w ↦ calm c.args.pace _ _ (c.record_at-record.ensures room) w.if-record-eq0.false w.not_before.ensures (sym w.value-is ∙ c.if-not_before.false) e
    ]
