-- `kcp::set_nodelay` meets its contract: the signed arguments go over as they are. Assumes nothing.
use mir.Syntax.{w32}
use mir.Facts.{to_z-of_z}
use Rattle.kcp.proofs.set_nodelay.Goals as goal

pub returns : goal.returns
returns c = let f = c.ranges in rw (c.set_nodelay.ensures, to_z-of_z {w = w32} f.interval, to_z-of_z {w = w32} f.resend)
