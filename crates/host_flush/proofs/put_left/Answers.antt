-- `host_flush::put_left` meets its contract. Assumes nothing.
use mathlib.Core.Path.{sym, ◌∙◌}
use borrow.Author.Tests.{eq-eqb, ne_eqb}
use Rattle.serial.specs.Branch.{pick_true, pick-false}
use Rattle.host_flush.proofs.put_left.Goals as goal

pub returns-then-datagrams-eq0 : goal.returns-then-datagrams-eq0
returns-then-datagrams-eq0 c = c.put_turned.ensures ∙ sym (pick_true _ _ (eq-eqb _ 0 c.if-datagrams-eq0.true))

pub returns : goal.returns
returns c = c.put_sent.ensures ∙ sym (pick-false _ _ (ne_eqb _ 0 c.if-datagrams-eq0.false))
