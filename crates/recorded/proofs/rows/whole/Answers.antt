-- `recorded::rows::whole` meets its contract. Either side of the test. Assumes nothing.
use Rattle.std.proofs.Common.{refl}
use Rattle.recorded.proofs.Whole.{cut_short, all_there}
use Rattle.recorded.proofs.rows.whole.Goals as goal

pub returns-then-left-lt-WIDTH-clause-value : goal.returns-then-left-lt-WIDTH-clause-value
returns-then-left-lt-WIDTH-clause-value c = (cut_short _ _ c.requires c.if-left-lt-WIDTH.true).0

pub returns : goal.returns
returns c =
    let r = all_there _ _ c.requires c.if-left-lt-WIDTH.false c.row_at-row.ensures refl in
    record {
      value = r.0;
      whole = r.1;
    }
