-- `Kind::try_from` meets its contract. The law of each kind. Assumes nothing.
use mathlib.Core.Path.{sym}
use Rattle.wire.proofs.Commands.{kind-push, kind-ack, kind-ask, kind-tell, kind-other}
use Rattle.std.proofs.Common.{arith}
use Rattle.wire.proofs.KindTryFromU8.try_from.Goals as goal

pub returns-in-81 : goal.returns-in-81
returns-in-81 c = sym (kind-push c.in-81.is)

pub returns-in-82 : goal.returns-in-82
returns-in-82 c = sym (kind-ack c.in-82.is)

pub returns-in-83 : goal.returns-in-83
returns-in-83 c = sym (kind-ask c.in-83.is)

pub returns-in-84 : goal.returns-in-84
returns-in-84 c = sym (kind-tell c.in-84.is)

pub returns-in_default : goal.returns-in_default
returns-in_default c = sym (kind-other (λ h. omega arith) (λ h. omega arith) (λ h. omega arith) (λ h. omega arith))
