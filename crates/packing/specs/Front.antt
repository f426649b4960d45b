-- "Order: acks, probes, ..": the front of a flush, as bytes and as sizes alone; the segments follow it. What joins the two, and that they are the rule's
-- pieces, is in proofs/Fronts. Assumes nothing.
use Rattle.std.specs.Prelude.{ℕ, List, [], ◌∷◌, ◌++◌, replicate}
use Rattle.serial.specs.Branch.{pick}
use Rattle.wire.specs.Commands.{ask, tell}
use Rattle.flushing.specs.declared.headers.Told.{Told}
use Rattle.flushing.specs.Probing.{ask_set, tell_set}
use Rattle.flushing.specs.Pieces.{Ack}
use Rattle.packing.specs.Acks.{ack_bytes, probe_head}

-- the acks, and an ask and a tell if their bits are set
unfoldable pub front_pieces : Told → ℕ → List Ack → List (List ℕ)
front_pieces told bits acks =
    ack_bytes told acks ++ (pick (ask_set bits) (probe_head told ask acks ∷ []) [] ++ pick (tell_set bits) (probe_head told tell acks ∷ []) [])

-- of n acks
unfoldable pub front_sizes : ℕ → ℕ → List ℕ
front_sizes n bits = replicate n 24 ++ (pick (ask_set bits) (24 ∷ []) [] ++ pick (tell_set bits) (24 ∷ []) [])
