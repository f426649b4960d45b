-- `receive::move_buf` meets its contract. Assumes nothing.
use Rattle.receive.specs.Memory.{ready_at, move_buf_at}
use Rattle.receive.proofs.move_buf.Goals as goal

pub returns : goal.returns
unfolding move_buf_at ready_at
returns c = cc
