-- `flight::put_record_at` meets its contract. Assumes nothing.
use native.Mathlib.Omega.{arith}
use Rattle.flight.proofs.Rows.{renewed_by}
use Rattle.flight.proofs.put_record_at.Goals as goal

pub returns : goal.returns
returns c =
    renewed_by c.args.records.now c.args.q c.args.«record» c.slots_in-slots.ensures (omega arith) c.put_record.ensures
