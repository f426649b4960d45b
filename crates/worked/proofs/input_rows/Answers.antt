-- `worked::input_rows` meets its contract: the first 1,500 of the bytes are as many. Assumes nothing.
use Rattle.std.proofs.Common.{sym, arith}
use lib.Seq.{length-take-le}
use Rattle.worked.proofs.input_rows.Goals as goal

pub slice_bounds-heard-end : goal.slice_bounds-heard-end
slice_bounds-heard-end g c = sym (length-take-le 1500 c.args.datagram.now (omega arith))
