-- `transmit::gather` meets its contract: the first i are gathered. Assumes nothing.
use mathlib.Core.List.{[]}
use Rattle.ring.specs.Lists.{lists}
use Rattle.snd_ring.specs.Store.{store_of}
use Rattle.transmit.specs.Portions.{Gathered}
use Rattle.transmit.proofs.gather.Given as goal

abbrev pub invariant-loop-i : goal.invariant-loop-i
invariant-loop-i l = Gathered (store_of 8 (lists l.records [])) l.q l.i l.flights
