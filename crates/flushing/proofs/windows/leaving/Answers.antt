-- `flushing::windows::leaving` meets its contract. By the numbers between. Assumes nothing.
use mathlib.Core.Path.{refl}
use Rattle.flushing.proofs.Leaving.{leaving-some, leaving_none}
use borrow.Author.Rules.{rules}
use Rattle.flushing.proofs.windows.leaving.Goals as goal

pub returns-then-between-le2147483648 : goal.returns-then-between-le2147483648
returns-then-between-le2147483648 c =
    leaving-some _ c.args.snd_nxt c.args.waiting _ (search rules) (search rules) refl _ c.if-between-le2147483648.true c.min.ensures

pub returns : goal.returns
returns c =
    leaving_none _ c.args.snd_nxt c.args.waiting _ (search rules) (search rules) refl c.if-between-le2147483648.false
