-- `due::size_at` meets its contract. Assumes nothing.
use native.Mathlib.Omega.{arith}
use mathlib.Core.Path.{sym, ◌∙◌}
use Rattle.due.proofs.Sizing.{grows, size-idle, size-gap, size_one}
use Rattle.std.proofs.Common.{ap}
use Rattle.std.proofs.Common.{not}
use Rattle.due.proofs.size_at.Goals as goal
use Rattle.due.proofs.size_at.Goals.{then-mark-eq0-via-then-mark-eq0, then-mark-eq0-via-else-mark-eq0+then-not-goes}

pub returns-then-not-stirs : goal.returns-then-not-stirs
returns-then-not-stirs c =
    record {
      by_index = size-idle c.args.pace c.args.mtu c.args.packer c.args.records.now c.args.q c.requires.q_lt_slots (λ room. c.stirs.ensures room c.if-not-stirs.true);
      used_bound_2 = (omega arith, omega arith);
    }

pub returns-then-mark-eq0 : goal.returns-then-mark-eq0
returns-then-mark-eq0 c =
    let a = c.args in
    record {
      by_index =
          elim c.then-mark-eq0.branch [
            | then-mark-eq0-via-then-mark-eq0 w ↦ size-gap a.pace a.mtu a.packer a.records.now a.q c.requires.q_lt_slots w.if-mark-eq0.true
            | then-mark-eq0-via-else-mark-eq0+then-not-goes w ↦ size-idle a.pace a.mtu a.packer a.records.now a.q c.requires.q_lt_slots (λ room. sym (w.goes.ensures room) ∙ w.if-not-goes.true)
          ];
      used_bound_2 = (omega arith, omega arith);
    }

pub returns : goal.returns
returns c =
    record {
      by_index = size_one c.args.pace c.args.mtu c.args.packer c.args.records.now c.args.q c.requires.q_lt_slots c.goes.ensures (ap not c.if-not-goes.false) c.if-mark-eq0.false c.size.ensures;
      used_bound_2 = grows c.args.mtu c.args.packer _ _ c.size.ensures (omega arith);
    }
