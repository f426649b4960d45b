-- `worked::heard` meets its contract. What the call ensures. Assumes nothing.
use Rattle.std.proofs.Common.{ap}
use Rattle.input.specs.Datagram.{ReadOut}
use Rattle.worked.proofs.heard.Goals as goal

pub returns-clause-value : goal.returns-clause-value
returns-clause-value c = ap (λ (o : ReadOut). o.answer) c.input-out.ensures.is
