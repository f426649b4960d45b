-- `input::ack` meets its contract. Assumes nothing.
use mathlib.Core.Path.{refl}
use Rattle.ring.specs.Lists.{lists}
use Rattle.snd_ring.specs.Store.{store_of}
use Rattle.input.proofs.Effects.{ack-done}
use Rattle.input.proofs.ack.Goals as goal

pub returns : goal.returns
returns c = let a = c.args in λ rcv acks room. ack-done a.walk.block a.h (store_of 8 (lists a.snd_records.now room)) (store_of 8 (lists _ room)) (c.parse_ack-sender.ensures room) c.update_ack.ensures refl refl a.walk.latest c.behind.ensures a.walk.skipped rcv acks
