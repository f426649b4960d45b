-- What the new segments leave of a sound ring, and what is seen in it afterwards. Assumes nothing.
use Prim.Native.Nat.{ℕ, zero, suc, ◌+◌, ◌≤◌, ◌<◌}
use native.Mathlib.Omega.{arith}
use mathlib.Core.Path.{◌≡◌, refl, sym, ◌∙◌}
use mathlib.Core.Bool.{Bool}
use mathlib.Core.List.{List, [], ◌∷◌, ◌++◌, map, append_assoc, append-nil}
use lib.ListN.{length, take, drop, length-take, length-set}
use Rattle.serial.specs.Branch.{pick}
use Rattle.snd_ring.specs.Store.{Stored, segment, waiting_of, Sound}
use Rattle.snd_ring.specs.Steps.{appended_ring, appended, written}
use Rattle.snd_ring.proofs.Views.{append-flight, append-waiting, append-sound}
use Rattle.sending.specs.Rules.{Segment}
use Rattle.sending.specs.Send.{waits, cut}
use Rattle.send.specs.Memory.{Laid, laid, row_of, queued_at}
use Rattle.send.proofs.Spaces.{Keeps, keeps_same, keeps_on}

-- a new segment as it stands in memory
abbrev pub stored_of : Segment → Stored
stored_of s = segment (row_of s.frg) s.payload

-- a piece fits a slot
pub piece-fits : (mss : ℕ) (bytes : List ℕ) → mss ≤ 1476 → length (take mss bytes) ≤ 1476
piece-fits mss bytes h = rw length-take (omega arith)

-- what `count` new segments l leave of x: y
pub record Behind (count : ℕ) (l : List Segment) (x y : Laid) : Type 0 where
  pub keeps : Keeps x.ring x.store y
  pub waiting : waiting_of 8 y.ring y.store ≡ waiting_of 8 x.ring x.store ++ map stored_of l
  pub more : y.ring.unsent ≡ x.ring.unsent + count

-- ---- one

module _ (x : Laid) (o : Sound 8 x.ring x.store) (free : x.ring.reach + x.ring.unsent < length x.store.marks) (s : Segment) (fit : length s.payload ≤ 1476) where
  abbrev next : Laid
  next = laid (appended_ring x.ring) (appended 8 x.ring x.store (stored_of s))

  slots_same : length next.store.marks ≡ length x.store.marks
  unfolding written
  slots_same = simp length-set

  pub one-behind : Behind 1 (s ∷ []) x next
  one-behind = record {
    keeps = record { sound = append-sound 8 x.ring x.store (stored_of s) o free refl fit; slots = slots_same; flight = append-flight 8 x.ring x.store (stored_of s) o free refl fit; flying = refl };
    waiting = append-waiting 8 x.ring x.store (stored_of s) o free refl fit;
    more = refl;
  }

-- ---- and the ones behind it

none-behind : (x : Laid) → Sound 8 x.ring x.store → Behind 0 [] x x
none-behind x o = record { keeps = keeps_same x.ring x.store o; waiting = sym (append-nil (waiting_of 8 x.ring x.store)); more = omega arith }

more-behind : {count : ℕ} {s : Segment} {l : List Segment} {x y z : Laid} → Behind 1 (s ∷ []) x y → Behind count l y z → Behind (suc count) (s ∷ l) x z
more-behind {count} {s} {l} {x} {y} {z} a b = record {
  keeps = keeps_on a.keeps b.keeps;
  waiting = b.waiting ∙ rw (a.waiting, append_assoc);
  more = let p = a.more in let q = b.more in omega arith;
}

module _ (mss : ℕ) (stream : Bool) (small : mss ≤ 1476) where
  pub queued-behind : (count : ℕ) (bytes : List ℕ) (x : Laid) → Sound 8 x.ring x.store → x.ring.reach + x.ring.unsent + count ≤ length x.store.marks
      → Behind count (cut mss stream count bytes) x (queued_at (cut mss stream count bytes) x)
  unfolding queued_at cut
  queued-behind zero bytes x o h = none-behind x o
  queued-behind (suc count) bytes x o h =
      let a = one-behind x o (omega arith) (waits (pick stream 0 count) (take mss bytes)) (piece-fits mss bytes small) in
      let e = a.keeps.slots in
      more-behind a (queued-behind count (drop mss bytes) _ a.keeps.sound (omega arith))
