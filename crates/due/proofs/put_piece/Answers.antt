-- `due::put_piece` meets its contract. Assumes nothing.
use native.Mathlib.Omega.{arith}
use Prim.Native.Nat.{◌+◌, ◌*◌}
use Rattle.wire.specs.Header.{header_bytes}
use Rattle.ring.specs.Records.{part_slot}
use Rattle.ring.proofs.Rows.{part_length}
use Rattle.flushing.proofs.Calls.{header-size}
use Rattle.due.proofs.Writing.{piece-put}
use Rattle.due.proofs.put_piece.Goals as goal

pub returns : goal.returns
returns c =
    let a = c.args in
    let e = part_length a.room.now (a.q * 1476 + 0) a.n (omega arith) in
    piece-put a.out.now a.at (header_bytes a.header) (part_slot 1476 a.room.now a.q 0 a.n) (header-size a.header) (omega arith) c.put_header.ensures c.get_payload.ensures
