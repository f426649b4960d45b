-- `kcp_c::calls::kcp_set_nodelay` meets its contract. What `set_nodelay` ensures, of the signed numbers and not of their bits. Assumes nothing.
use mir.Syntax.{w32}
use mir.Facts.{to_z-of_z}
use Rattle.kcp_c.proofs.calls.kcp_set_nodelay.Goals as goal

pub returns : goal.returns
returns c =
    let f = c.ranges in
    rw (to_z-of_z {w = w32} f.interval, to_z-of_z {w = w32} f.resend) at c.set_nodelay.ensures
