-- `due::goes` meets its contract. Assumes nothing.
use Rattle.due.proofs.Sizing.{goes_by}
use Rattle.due.proofs.goes.Goals as goal

pub returns : goal.returns
returns c =
    λ room. goes_by c.args.pace _ _ _ _ (c.record_at.ensures room) c.flown_by-flown.ensures c.goes_out.ensures
