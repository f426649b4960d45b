-- `transmit::raise_run` meets its contract: what is left of the run from q on is the whole. Assumes nothing.
use Prim.Native.Nat.{ℕ, ◌-◌}
use mathlib.Core.Path.{◌≡◌}
use mathlib.Core.List.{List}
use Rattle.ring.specs.Lists.{lists}
use Rattle.snd_ring.specs.Store.{store_of}
use Rattle.transmit.specs.Portions.{raised_run}
use Rattle.transmit.proofs.raise_run.Given as goal

abbrev pub invariant-loop-q : goal.invariant-loop-q
invariant-loop-q l =
    (room : List ℕ) → raised_run l.latest.sn l.latest.ts l.q (l.to - l.q) (store_of 8 (lists l.records room)) ≡ raised_run l.latest.sn l.latest.ts l.from (l.to - l.from) (store_of 8 (lists l.initial.records room))
