-- `probe_head` meets its contract: no ack, or the last one. Assumes nothing.
use mathlib.Core.Path.{◌∙◌}
use Rattle.packing.proofs.AckBytes.{probe_none, probe-some}
use Rattle.packing.proofs.probes.probe_head.Goals as goal

pub returns-then-n-eq0 : goal.returns-then-n-eq0
returns-then-n-eq0 c =
    let args = c.args in
    c.bytes.ensures ∙ probe_none args.told args.acks.now args.n args.cmd _ c.if-n-eq0.true c.bare_head.ensures

pub returns : goal.returns
returns c =
    let args = c.args in
    c.bytes-2.ensures
    ∙ probe-some args.told args.acks.now args.n args.cmd _ _ _ c.if-n-eq0.false c.number_at-sn.ensures c.number_at-ts.ensures c.bare_head-2.ensures
