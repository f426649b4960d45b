-- The definitions at small closed cases: four slots, from place 3 on. Assumes nothing.
use Rattle.std.specs.Prelude.{◌≡◌, refl, true, false, [], ◌∷◌, replicate}
use Rattle.ring.specs.Lists.{Lists, lists}
use Rattle.ring.specs.Records.{put, part}
use Rattle.ring.specs.Places.{place, summed}
use Rattle.ring.specs.Counting.{at_least, count}
use Rattle.rcv_ring.specs.Words.{word}
use Rattle.rcv_ring.specs.Places.{payload_at, marks_fit}
use Rattle.rcv_ring.specs.Moves.{ring, cleared, reached, stored_at, moved_by, dropped_by}
use Rattle.rcv_ring.specs.Views.{content, held, span, kept, queue_of, held_of, put_by, leading, ready_of}

-- stale words are no fault
stale : Lists
stale = lists (9 ∷ 4294967295 ∷ 9 ∷ 65536 ∷ []) (replicate 5904 0)

-- distance 1 comes before distance 0
later : Lists
unfolding stale stored_at cleared place put
later = stored_at (ring 3 0 0) stale 1 0 (5 ∷ 6 ∷ [])

both : Lists
unfolding later stale stored_at cleared place put
both = stored_at (ring 3 0 2) later 0 1 (4 ∷ [])

words : (later.records ≡ 196608 ∷ 4294967295 ∷ 9 ∷ 0 ∷ []) × (both.records ≡ 196608 ∷ 4294967295 ∷ 9 ∷ 131073 ∷ []) × (word 1 1 ≡ 131073)
unfolding both later stale stored_at cleared place put
words = (refl, refl, refl)

seen : (held_of (ring 3 0 2) later ≡ held 1 (content 0 (5 ∷ 6 ∷ [])) ∷ [])
    × (held_of (ring 3 0 2) both ≡ put_by (held 0 (content 1 (4 ∷ []))) (held_of (ring 3 0 2) later))
    × (queue_of (ring 3 2 0) both ≡ content 1 (4 ∷ []) ∷ content 0 (5 ∷ 6 ∷ []) ∷ [])
unfolding both later stale stored_at cleared place put part payload_at held_of kept put_by queue_of span
seen = (refl, refl, refl)

counts : (ready_of (ring 3 0 2) later.records 2 ≡ 0) × (ready_of (ring 3 0 2) both.records 2 ≡ 2) × (ready_of (ring 3 0 2) both.records 1 ≡ 1)
unfolding both later stale stored_at cleared place put ready_of leading
counts = (refl, refl, refl)

rings : (reached (ring 3 0 0) 1 ≡ ring 3 0 2) × (moved_by 2 (ring 3 0 2) ≡ ring 3 2 0) × (dropped_by 4 1 (ring 3 2 0) ≡ ring 0 1 0) × (dropped_by 4 2 (ring 3 2 0) ≡ ring 0 0 0)
unfolding dropped_by place
rings = (refl, refl, refl, refl)

-- an empty slot is a fault in the queue and none in the reach; a stale word is one only where it is in use
tests : (marks_fit (ring 3 2 0) both.records ≡ true)
    × (marks_fit (ring 3 0 2) later.records ≡ true)
    × (marks_fit (ring 3 1 1) later.records ≡ false)
    × (marks_fit (ring 0 1 1) both.records ≡ false)
    × (marks_fit (ring 0 2 0) both.records ≡ false)
unfolding both later stale stored_at cleared place put marks_fit count summed at_least
tests = (refl, refl, refl, refl, refl)
