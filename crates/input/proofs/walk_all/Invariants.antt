-- `input::walk_all` meets its contract. Assumes nothing.
use Prim.Native.Nat.{◌-◌}
use mathlib.Core.Path.{◌≡◌}
use lib.ListN.{length}
use Rattle.ring.specs.Lists.{lists}
use Rattle.input.proofs.Segments.{met_by}
use Rattle.input.proofs.Loop.{Going}
use Rattle.input.proofs.walk_all.Given as goal

abbrev pub invariant-loop-at : goal.invariant-loop-at
invariant-loop-at l =
    Going l.datagram (met_by l.initial.walk (lists l.initial.rcv_records l.initial.rcv_room) l.initial.acks l.initial.snd_records) l.walk (lists l.rcv_records l.rcv_room) l.acks l.snd_records l.at
    × (length l.rcv_records ≡ length l.initial.rcv_records)
    × (length l.rcv_room ≡ length l.initial.rcv_room)
    × (length l.acks ≡ length l.initial.acks)
    × (length l.snd_records ≡ length l.initial.snd_records)

abbrev pub decreases-loop-at : goal.decreases-loop-at
decreases-loop-at l = length l.datagram - l.at
