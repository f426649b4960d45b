-- `input::begin` meets its contract. Assumes nothing.
use mathlib.Core.Path.{refl}
use Rattle.ring.specs.Lists.{lists}
use Rattle.snd_ring.specs.Store.{store_of}
use Rattle.input.proofs.Effects.{begun-done}
use Rattle.input.proofs.begin.Goals as goal

pub returns : goal.returns
returns c = let a = c.args in λ room. begun-done a.block a.h (store_of 8 (lists a.snd_records.now room)) (c.parse_una.ensures room) refl refl
