-- `output::settled` meets its contract: part by part. Assumes nothing.
use Rattle.output.proofs.settled.Goals as goal

pub returns : goal.returns
returns c =
    rw (
      c.congestion_after-congestion.ensures,
      c.requires,
    )
