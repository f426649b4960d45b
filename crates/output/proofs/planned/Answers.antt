-- `output::planned` meets its contract: each part is that of its own function. Assumes nothing.
use Rattle.output.proofs.planned.Goals as goal

pub returns : goal.returns
returns c =
    rw (
      c.leaving.ensures,
      c.probe_wnd_size.ensures,
      c.pace_of.ensures,
      c.told.ensures,
      c.window_of-window.ensures,
    )
