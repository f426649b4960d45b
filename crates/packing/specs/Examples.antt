-- flush_ack in lent memory, a probe, and the front of a flush on closed cases. Assumes nothing.
use Rattle.std.specs.Prelude.{ℕ, ◌-◌, ◌≡◌, refl, List, [], ◌∷◌, ◌++◌, replicate, Ok, Err}
use Rattle.serial.specs.Branch.{pick}
use Rattle.ring.specs.Records.{put}
use Rattle.wire.specs.Header.{header_bytes}
use Rattle.flushing.specs.declared.headers.Told.{Told}
use Rattle.flushing.specs.Pack.{flat, sum_of, datagram_of, goes, stays, pack}
use Rattle.flushing.specs.Pieces.{bare_head, last_ack_of}
use Rattle.flushing.specs.Rules.{exceeds}
use Rattle.block.specs.declared.refusal.Refusal.TheVariants.{OutTooSmall}
use Rattle.packing.specs.Acks.{acks_from, acks_of, probe_head}
use Rattle.packing.specs.FlushAck.{writing, sent, flush_ack_at}
use Rattle.packing.specs.Front.{front_pieces, front_sizes}

told : Told
told = record { conv = 7; wnd = 128; una = 12 }

-- two acks: 10 of time 50 and 11 of time 51; the third pair is old
acks : List ℕ
acks = 10 ∷ 50 ∷ 11 ∷ 51 ∷ 9 ∷ 9 ∷ []

first : List ℕ
first = header_bytes (bare_head told 82 10 50)

second : List ℕ
second = header_bytes (bare_head told 82 11 51)

-- n bytes wait, in a list of 52
waits : ℕ → List ℕ
waits n = replicate n 1 ++ replicate (52 - n) 0

-- 24 bytes wait at mtu 50: the first ack joins them, and the second sends them off and stays; what lies past what is written stays
sends : flush_ack_at told 50 acks 2 24 (writing (waits 24) (replicate 50 5) (6 ∷ 6 ∷ []))
    ≡ (Ok (sent 1 24), writing (second ++ replicate 28 0) (replicate 24 1 ++ first ++ replicate 2 5) (48 ∷ 6 ∷ []))
unfolding told acks first second waits flush_ack_at acks_from header_bytes exceeds pack goes stays datagram_of flat sum_of pick put
sends = refl

-- no ack: nothing goes out, and nothing is asked of what is lent
none : flush_ack_at told 50 acks 0 24 (writing (waits 24) [] []) ≡ (Ok (sent 0 24), writing (waits 24) [] [])
unfolding told acks waits flush_ack_at acks_from exceeds pack flat sum_of pick put
none = refl

-- exactly full: 26 bytes and an ack are 50, and stay; one byte more sends 27 off
full : (flush_ack_at told 50 acks 1 26 (writing (waits 26) [] []) ≡ (Ok (sent 0 50), writing (replicate 26 1 ++ first ++ replicate 2 0) [] []))
    × (flush_ack_at told 50 acks 1 27 (writing (waits 27) (replicate 27 5) (6 ∷ []))
    ≡ (Ok (sent 1 24), writing (first ++ replicate 3 1 ++ replicate 25 0) (replicate 27 1) (27 ∷ [])))
unfolding told acks first waits flush_ack_at acks_from header_bytes exceeds pack goes stays datagram_of flat sum_of pick put
full = (refl, refl)

-- 13: 48 bytes into 47, and a datagram into no length
refuses : (flush_ack_at told 50 acks 2 24 (writing (waits 24) (replicate 47 5) (6 ∷ [])) ≡ (Err OutTooSmall, writing (waits 24) (replicate 47 5) (6 ∷ [])))
    × (flush_ack_at told 50 acks 2 24 (writing (waits 24) (replicate 48 5) []) ≡ (Err OutTooSmall, writing (waits 24) (replicate 48 5) []))
unfolding told acks waits flush_ack_at acks_from header_bytes exceeds pack goes stays datagram_of flat sum_of pick put
refuses = (refl, refl)

-- a probe carries the last ack, else 0
probes : (probe_head told 83 (acks_of acks 2) ≡ header_bytes (bare_head told 83 11 51)) × (probe_head told 84 (acks_of acks 0) ≡ header_bytes (bare_head told 84 0 0))
unfolding told acks acks_from last_ack_of
probes = (refl, refl)

-- the front: both probes carry the last of the two acks; without acks a tell carries 0
fronts : (front_pieces told 3 (acks_from acks 0 2) ≡ first ∷ second ∷ header_bytes (bare_head told 83 11 51) ∷ header_bytes (bare_head told 84 11 51) ∷ [])
    × (front_pieces told 2 [] ≡ header_bytes (bare_head told 84 0 0) ∷ [])
    × (front_sizes 2 3 ≡ 24 ∷ 24 ∷ 24 ∷ 24 ∷ [])
unfolding told acks first second front_pieces front_sizes acks_from header_bytes last_ack_of pick
fronts = (refl, refl, refl)
