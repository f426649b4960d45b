-- `flight::launch_rows` meets its contract. Assumes nothing.
use Prim.Native.Nat.{ℕ, ◌+◌, ◌-◌}
use mathlib.Core.Path.{◌≡◌}
use mathlib.Core.List.{List}
use Rattle.ring.specs.Lists.{lists}
use Rattle.snd_ring.specs.Store.{store_of}
use Rattle.flight.specs.Places.{places_of}
use Rattle.flight.specs.Memory.{launched_over}
use Rattle.flight.proofs.launch_rows.Given as goal

abbrev pub invariant-loop-i : goal.invariant-loop-i
invariant-loop-i l =
    (room : List ℕ) → launched_over l.conv l.current l.rx_rto l.sn (places_of l.slots l.start (l.reach + l.i) (l.k - l.i)) (store_of 8 (lists l.records room)) ≡ launched_over l.conv l.current l.rx_rto l.snd_nxt (places_of l.slots l.start l.reach l.k) (store_of 8 (lists l.initial.records room))
