-- `flush_ack` in lent memory: "with datagrams put end to end in lent bytes and their lengths in a lent list; .. lent bytes and lengths past those written
-- stay"; "flush_ack leaves its last bytes waiting"; "13 | the datagrams of this call exceed the lent bytes or lent lengths | all as it was".
-- Assumes nothing.
use Rattle.std.specs.Prelude.{ℕ, List, map, length, take, Result, Ok, Err}
use Rattle.serial.specs.Branch.{pick}
use Rattle.ring.specs.Records.{put}
use Rattle.flushing.specs.declared.headers.Told.{Told}
use Rattle.flushing.specs.Pack.{flat, pack}
use Rattle.flushing.specs.Rules.{Room, exceeds}
use Rattle.block.specs.declared.refusal.Refusal.{Refusal}
use Rattle.block.specs.declared.refusal.Refusal.TheVariants.{OutTooSmall}
use Rattle.packing.specs.declared.flush_ack.Sent.{Sent}
use Rattle.packing.specs.Acks.{acks_of, ack_bytes}

-- what it writes: the waiting bytes, the lent bytes and the lent lengths
pub record Writing : Type 0 where
  pub waiting : List ℕ
  pub out : List ℕ
  pub lengths : List ℕ

abbrev pub writing : List ℕ → List ℕ → List ℕ → Writing
writing waiting out lengths = record { waiting = waiting; out = out; lengths = lengths }

abbrev pub sent : ℕ → ℕ → Sent
sent datagrams waiting = record { datagrams = datagrams; waiting = waiting }

-- how much is lent
abbrev pub room_of : Writing → Room
room_of m = record { bytes = length m.out; lengths = length m.lengths }

-- datagrams, and what waits after them: each from the start on, and all else as it was
abbrev pub put_out : List (List ℕ) × List ℕ → Writing → Writing
put_out packed m = writing (put m.waiting 0 packed.1) (put m.out 0 (flat packed.0)) (put m.lengths 0 (map length packed.0))

-- the first n acks, packed behind the first `held` of the waiting bytes
unfoldable pub flush_ack_at : Told → ℕ → List ℕ → ℕ → ℕ → Writing → Result Sent Refusal × Writing
flush_ack_at told mtu acks n held m =
    let packed = pack mtu (take held m.waiting) (ack_bytes told (acks_of acks n)) in
    pick (exceeds (room_of m) (map length packed.0)) (Err OutTooSmall, m) (Ok (sent (length packed.0) (length packed.1)), put_out packed m)
