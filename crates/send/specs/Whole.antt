-- The bytes of segments, one after the other: what "It answers the bytes queued" speaks of (proofs/Whole). Assumes nothing.
use Rattle.std.specs.Prelude.{ℕ, List, [], ◌∷◌, ◌++◌}
use Rattle.sending.specs.Rules.{Segment}

unfoldable pub bytes_of : List Segment → List ℕ
bytes_of [] = []
bytes_of (s ∷ l) = s.payload ++ bytes_of l
