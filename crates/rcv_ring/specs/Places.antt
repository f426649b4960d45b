-- The receive ring: index 0 is the queue's front; the queue has the first indices, and behind it stand the distances past the next number awaited.
-- Assumes nothing.
use Rattle.std.specs.Prelude.{ℕ, ◌+◌, ◌-◌, ◌*◌, ◌≤◌, ◌<◌, ◌≡◌, Bool, ◌&&◌, List, length, eqb}
use Rattle.ring.specs.Lists.{Lists}
use Rattle.ring.specs.Places.{place}
use Rattle.ring.specs.Records.{part_slot}
use Rattle.ring.specs.Counting.{word_at, count}
use Rattle.rcv_ring.specs.declared.RcvRing.{RcvRing}
use Rattle.rcv_ring.specs.Words.{mark_of, frg_of}

-- the mark, the frg and the size of the payload at index i
abbrev pub mark_at : RcvRing → List ℕ → ℕ → ℕ
mark_at r records i = mark_of (word_at records r.start i)

abbrev pub frg_at : RcvRing → List ℕ → ℕ → ℕ
frg_at r records i = frg_of (word_at records r.start i)

abbrev pub size_at : RcvRing → List ℕ → ℕ → ℕ
size_at r records i = mark_at r records i - 1

-- the payload at index i
unfoldable pub payload_at : RcvRing → Lists → ℕ → List ℕ
payload_at r l i = part_slot 1476 l.room (place (length l.records) r.start i) 0 (size_at r l.records i)

-- the ring starts within its words, of which there are few
pub record Within (r : RcvRing) (records : List ℕ) : Type 0 where
  pub many : length records ≤ 65535
  pub started : r.start < length records

-- the lists are as long as they have to be, and the ring's numbers lie within them
pub record Shaped (r : RcvRing) (l : Lists) : Type 0 where
  pub many : length l.records ≤ 65535
  pub room-size : length l.room ≡ length l.records * 1476
  pub started : r.start < length l.records
  pub within : r.queued + r.reach ≤ length l.records

-- "payloads at most 1,476 bytes": in the queue every index is a segment, in the reach some are, and each payload fits; as facts and as a test
pub record Marked (r : RcvRing) (records : List ℕ) : Type 0 where
  pub full : (i : ℕ) → i < r.queued → 1 ≤ mark_at r records i
  pub short : (i : ℕ) → i < r.queued + r.reach → mark_at r records i ≤ 1477

unfoldable pub marks_fit : RcvRing → List ℕ → Bool
marks_fit r records =
    eqb (count 65536 records r.start 0 r.queued) r.queued
    && (eqb (count 96862208 records r.start 0 r.queued) 0 && eqb (count 96862208 records r.start r.queued r.reach) 0)

pub record Sound (r : RcvRing) (l : Lists) : Type 0 where
  pub shaped : Shaped r l
  pub marked : Marked r l.records
