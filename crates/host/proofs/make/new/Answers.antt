-- `host::make::new` meets its contract. What the calls ensure. Assumes nothing.
use Rattle.host.proofs.make.new.Goals as goal

pub returns : goal.returns
returns c = c.put_made.ensures _ _ c.new-made.ensures
