-- `transmit::put_back` meets its contract: what is left to write from record i on is the whole. Assumes nothing.
use Prim.Native.Nat.{ℕ, ◌-◌}
use mathlib.Core.Path.{◌≡◌}
use mathlib.Core.List.{List}
use lib.ListN.{length}
use Rattle.ring.specs.Lists.{lists}
use Rattle.snd_ring.specs.Store.{store_of}
use Rattle.transmit.specs.Portions.{put_back}
use Rattle.transmit.proofs.put_back.Given as goal

abbrev pub invariant-loop-i : goal.invariant-loop-i
invariant-loop-i l =
    (room : List ℕ) → put_back l.flights l.q l.i (length l.flights - l.i) (store_of 8 (lists l.records room)) ≡ put_back l.flights l.q 0 (length l.flights) (store_of 8 (lists l.initial.records room))
