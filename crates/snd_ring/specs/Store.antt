-- The send ring: indices 0 .. reach are in flight, with gaps, and the `unsent` indices from there on wait to be sent; every other slot is free, and what
-- stands there is no fault. Of its records the first are the marks, one for each slot, and behind them stand the rows, w numbers for each.
-- Assumes nothing.
use Rattle.std.specs.Prelude.{ℕ, ◌+◌, ◌-◌, ◌*◌, ◌/◌, ◌≤◌, ◌<◌, Bool, cond, ◌&&◌, ◌||◌, not, ◌≡◌, List, [], ◌∷◌, length, get_or, take, drop, eqb}
use Rattle.ring.specs.Lists.{Lists}
use Rattle.ring.specs.Places.{place, along}
use Rattle.ring.specs.Records.{part_slot}
use Rattle.snd_ring.specs.Marks.{mark_at, lives, faults}
use Rattle.snd_ring.specs.declared.SndRing.{SndRing}

-- the marks, the rows and the room
pub record Store : Type 0 where
  pub marks : List ℕ
  pub rows : List ℕ
  pub room : List ℕ

abbrev pub store : List ℕ → List ℕ → List ℕ → Store
store m k r = record { marks = m; rows = k; room = r }

-- those of two lent lists, with rows of w numbers
unfoldable pub store_of : ℕ → Lists → Store
store_of w l = store (take (length l.records / (w + 1)) l.records) (drop (length l.records / (w + 1)) l.records) l.room

-- a segment: its row and its payload
pub record Stored : Type 0 where
  pub row : List ℕ
  pub payload : List ℕ

abbrev pub segment : List ℕ → List ℕ → Stored
segment x y = record { row = x; payload = y }

-- what stands at place q: no segment at a gap, and else one
unfoldable pub cell : ℕ → Store → ℕ → List Stored
cell w m q =
    cond (eqb (get_or m.marks q 0) 0) []
    (segment (part_slot w m.rows q 0 w) (part_slot 1476 m.room q 0 (get_or m.marks q 0 - 1)) ∷ [])

-- the segments at the n indices from `from` on
unfoldable pub seen : ℕ → Store → ℕ → ℕ → ℕ → List Stored
seen w m s from n = along (λ (i : ℕ). cell w m (place (length m.marks) s i)) from n

-- the segments in flight, and those that wait
unfoldable pub flight_of : ℕ → SndRing → Store → List Stored
flight_of w r m = seen w m r.start 0 r.reach

unfoldable pub waiting_of : ℕ → SndRing → Store → List Stored
waiting_of w r m = seen w m r.start r.reach r.unsent

-- the sizes agree
pub record Sized (w : ℕ) (m : Store) : Type 0 where
  pub most : length m.marks ≤ 65535
  pub rows-size : length m.rows ≡ length m.marks * w
  pub room-size : length m.room ≡ length m.marks * 1476

-- and the indices in use are no more than the slots
pub record Shaped (w : ℕ) (r : SndRing) (m : Store) : Type 0 where
  pub sized : Sized w m
  pub inside : r.start < length m.marks
  pub many : r.reach + r.unsent ≤ length m.marks

-- "payloads at most 1,476 bytes"; what waits has no gap, `flying` counts the segments in flight, and the first index in flight is no gap;
-- as facts and as a test
pub record Marked (r : SndRing) (l : List ℕ) : Type 0 where
  pub fit : (i : ℕ) → i < r.reach + r.unsent → mark_at l r.start i ≤ 1477
  pub waits : (i : ℕ) → r.reach ≤ i → i < r.reach + r.unsent → mark_at l r.start i ≡ 0 → ⊥
  pub counted : r.flying ≡ lives l r.start 0 r.reach
  pub normal : 0 < r.reach → get_or l r.start 0 ≡ 0 → ⊥

unfoldable pub marks_fit : SndRing → List ℕ → Bool
marks_fit r l =
    eqb (faults l r.start 0 r.reach) 0
    && (eqb (lives l r.start 0 r.reach) r.flying
    && (eqb (faults l r.start r.reach r.unsent) 0
    && (eqb (lives l r.start r.reach r.unsent) r.unsent
    && (eqb r.reach 0 || not (eqb (get_or l r.start 0) 0)))))

pub record Sound (w : ℕ) (r : SndRing) (m : Store) : Type 0 where
  pub shaped : Shaped w r m
  pub marked : Marked r m.marks
