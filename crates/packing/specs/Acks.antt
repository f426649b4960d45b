-- "Ack list A: 128 to 4,096 pairs": the acks that the ack memory holds, pair by pair, and their bytes; "An ask or tell carries sn and ts of the last ack
-- of the same flush, else 0". Assumes nothing.
use Rattle.std.specs.Prelude.{ℕ, zero, suc, List, [], ◌∷◌, map}
use Rattle.ring.specs.Records.{number_at}
use Rattle.wire.specs.Header.{header_bytes}
use Rattle.flushing.specs.declared.headers.Told.{Told}
use Rattle.flushing.specs.Pieces.{Ack, piece_bytes, bare_head, ack_pieces, last_ack}

-- pair i: the number of the push, then its time
abbrev pub pair_at : List ℕ → ℕ → Ack
pair_at acks i = record { sn = number_at 2 acks i 0; ts = number_at 2 acks i 1 }

-- n acks from pair i on
unfoldable pub acks_from : List ℕ → ℕ → ℕ → List Ack
acks_from acks i zero = []
acks_from acks i (suc n) = pair_at acks i ∷ acks_from acks (suc i) n

-- the first n
abbrev pub acks_of : List ℕ → ℕ → List Ack
acks_of acks n = acks_from acks 0 n

-- the bytes of each
abbrev pub ack_bytes : Told → List Ack → List (List ℕ)
ack_bytes told acks = map piece_bytes (ack_pieces told acks)

-- those of a probe
abbrev pub probe_head : Told → ℕ → List Ack → List ℕ
probe_head told cmd acks = header_bytes (bare_head told cmd (last_ack acks).sn (last_ack acks).ts)
