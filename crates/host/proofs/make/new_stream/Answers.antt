-- `host::make::new_stream` meets its contract. What the calls ensure. Assumes nothing.
use Rattle.host.proofs.make.new_stream.Goals as goal

pub returns : goal.returns
returns c = c.put_made.ensures _ _ c.new_stream-made.ensures
