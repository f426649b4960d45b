-- What each function leaves. Assumes nothing.
use Rattle.std.specs.Prelude.{ℕ, zero, suc, ◌+◌, ◌-◌, cond, List, [], ◌∷◌, length, get_or, set, eqb}
use Rattle.ring.specs.Places.{place}
use Rattle.ring.specs.Records.{put_slot, part_slot}
use Rattle.snd_ring.specs.Marks.{live_of, mark_at, passed}
use Rattle.snd_ring.specs.Store.{Store, store, Stored}
use Rattle.snd_ring.specs.declared.SndRing.{SndRing}

abbrev pub ring : ℕ → ℕ → ℕ → ℕ → SndRing
ring s r l q = record { start = s; reach = r; flying = l; unsent = q }

-- the mark k, the row x and the bytes y are put into the slot at place q
unfoldable pub written : ℕ → Store → ℕ → ℕ → List ℕ → List ℕ → Store
written w m q k x y = store (set m.marks q k) (put_slot w m.rows q 0 x) (put_slot 1476 m.room q 0 y)

-- other marks, and number k of the row at place q another
abbrev pub with_marks : Store → List ℕ → Store
with_marks m l = store l m.rows m.room

abbrev pub renumbered : ℕ → Store → ℕ → ℕ → ℕ → Store
renumbered w m q k x = store m.marks (put_slot w m.rows q k (x ∷ [])) m.room

-- one more waits, behind the others
abbrev pub appended_ring : SndRing → SndRing
appended_ring r = ring r.start r.reach r.flying (r.unsent + 1)

abbrev pub appended : ℕ → SndRing → Store → Stored → Store
appended w r m x = written w m (place (length m.marks) r.start (r.reach + r.unsent)) (length x.payload + 1) x.row x.payload

-- the first that waits is in flight
abbrev pub launched : SndRing → SndRing
launched r = ring r.start (r.reach + 1) (r.flying + 1) (r.unsent - 1)

-- where nothing is in use, the ring starts at place 0
unfoldable pub settled : SndRing → SndRing
settled r = ring (cond (eqb (r.reach + r.unsent) 0) 0 r.start) r.reach r.flying r.unsent

-- the first t indices leave, k segments among them; of p slots
unfoldable pub advanced : ℕ → SndRing → ℕ → ℕ → SndRing
advanced p r t k = settled (ring (place p r.start t) (r.reach - t) (r.flying - k) r.unsent)

-- the first k segments leave, and the gaps behind them
unfoldable pub dropped : SndRing → List ℕ → ℕ → SndRing
dropped r l k = advanced (length l) r (passed (mark_at l r.start) 0 r.reach k) k

-- the segment at index i becomes a gap, and gaps at the front leave
unfoldable pub gapped : SndRing → List ℕ → ℕ → List ℕ
gapped r l i = set l (place (length l) r.start i) 0

unfoldable pub taken_out : SndRing → List ℕ → ℕ → SndRing
taken_out r l i = dropped (ring r.start r.reach (r.flying - 1) r.unsent) (gapped r l i) 0

-- what stands at place a is put at place b as well
abbrev pub moved : ℕ → Store → ℕ → ℕ → Store
moved w m a b =
    written w m b (get_or m.marks a 0) (part_slot w m.rows a 0 w) (part_slot 1476 m.room a 0 (get_or m.marks a 0 - 1))

-- where there is a segment at index n, it is put at the index before `to`
unfoldable pub slid_one : ℕ → Store → ℕ → ℕ → ℕ → Store
slid_one w m s n to =
    cond (eqb (mark_at m.marks s n) 0) m (moved w m (place (length m.marks) s n) (place (length m.marks) s (to - 1)))

-- the segments at the first n indices are put, the last one first, at the indices before `to`
unfoldable pub slid : ℕ → Store → ℕ → ℕ → ℕ → Store
slid w m s zero to = m
slid w m s (suc n) to = slid w (slid_one w m s n to) s n (to - live_of (mark_at m.marks s n))

-- the gaps in flight are closed: its segments slide toward the back, and what waits does not move
unfoldable pub closed : ℕ → SndRing → Store → Store
closed w r m = slid w m r.start r.reach r.reach

unfoldable pub closed_ring : ℕ → SndRing → SndRing
closed_ring p r = settled (ring (place p r.start (r.reach - r.flying)) r.flying r.flying r.unsent)

-- ---- the last that waits: bytes are put behind its payload, and number k of its row becomes x

abbrev pub last : SndRing → ℕ
last r = r.reach + r.unsent - 1

abbrev pub last_place : SndRing → List ℕ → ℕ
last_place r l = place (length l) r.start (last r)

unfoldable pub filled : ℕ → SndRing → Store → List ℕ → ℕ → ℕ → Store
filled w r m y k x =
    store (set m.marks (last_place r m.marks) (mark_at m.marks r.start (last r) + length y))
    (put_slot w m.rows (last_place r m.marks) k (x ∷ []))
    (put_slot 1476 m.room (last_place r m.marks) (mark_at m.marks r.start (last r) - 1) y)
