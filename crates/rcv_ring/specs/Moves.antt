-- What the calls do to the ring and to the lent lists. Assumes nothing.
use Rattle.std.specs.Prelude.{ℕ, zero, suc, ◌+◌, ◌-◌, max, cond, List, length, set, eqb}
use Rattle.ring.specs.Lists.{Lists, lists}
use Rattle.ring.specs.Places.{place}
use Rattle.ring.specs.Records.{put_slot}
use Rattle.rcv_ring.specs.declared.RcvRing.{RcvRing}
use Rattle.rcv_ring.specs.Words.{word}

abbrev pub ring : ℕ → ℕ → ℕ → RcvRing
ring s q n = record { start = s; queued = q; reach = n }

-- the records once the words of the n indices from i on are 0
unfoldable pub cleared : ℕ → ℕ → ℕ → List ℕ → List ℕ
cleared start i zero l = l
cleared start i (suc n) l = cleared start (suc i) n (set l (place (length l) start i) 0)

-- the ring once distance d is in reach
abbrev pub reached : RcvRing → ℕ → RcvRing
reached r d = ring r.start r.queued (max r.reach (d + 1))

-- the lists once a segment with this frg and payload stands at distance d, with nothing held from the old reach up to it
unfoldable pub stored_at : RcvRing → Lists → ℕ → ℕ → List ℕ → Lists
stored_at r l d frg payload =
    let at = place (length l.records) r.start (r.queued + d) in
    lists (set (cleared r.start (r.queued + r.reach) (d - r.reach) l.records) at (word frg (length payload))) (put_slot 1476 l.room at 0 payload)

-- the first k distances become the queue's last; no memory moves
abbrev pub moved_by : ℕ → RcvRing → RcvRing
moved_by k r = ring r.start (r.queued + k) (r.reach - k)

-- the first k of the queue are dropped; an empty ring starts at place 0
unfoldable pub dropped_by : ℕ → ℕ → RcvRing → RcvRing
dropped_by slots k r =
    cond (eqb (r.queued - k + r.reach) 0) (ring 0 0 0) (ring (place slots r.start k) (r.queued - k) r.reach)
