-- `send::pieces` meets its contract. Assumes nothing.
use native.Mathlib.Omega.{arith}
use mathlib.Core.Path.{sym, ◌∙◌}
use Rattle.send.proofs.Numbers.{pieces_none, pieces-some, pieces_zero}
use Rattle.send.proofs.pieces.Goals as goal
use Rattle.send.proofs.pieces.Goals.{else-n-eq0-via-then-n-eq0+else-not-stream, else-n-eq0-via-else-n-eq0}

pub returns-then-not-stream : goal.returns-then-not-stream
returns-then-not-stream c = let a = c.args in sym ((pieces_none a.mss a.stream c.if-n-eq0.true).1 c.if-not-stream.true)

pub returns : goal.returns
returns c =
    let a = c.args in
    c.div_ceil.ensures
    ∙ elim c.else-n-eq0.branch [
      | else-n-eq0-via-then-n-eq0+else-not-stream w ↦ pieces_zero a.mss a.stream a.n c.requires w.if-n-eq0.true w.if-not-stream.false
      | else-n-eq0-via-else-n-eq0 w ↦ pieces-some a.mss a.stream a.n c.requires (omega arith)
    ]
