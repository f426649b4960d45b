-- `flight::record_at` meets its contract. Assumes nothing.
use Rattle.flight.proofs.Rows.{record_by}
use Rattle.flight.proofs.record_at.Goals as goal

pub returns : goal.returns
returns c =
    record_by c.args.records.now c.args.q c.number_at.ensures c.number_at-2.ensures c.number_at-3.ensures c.number_at-4.ensures c.number_at-5.ensures c.number_at-6.ensures c.number_at-7.ensures c.number_at-8.ensures
