-- What the steps of the code ask and give, over the lists behind the slices. Assumes nothing.
use Prim.Native.Nat.{ℕ, suc, ◌+◌, ◌-◌, ◌/◌, ◌≤◌, ◌<◌, min}
use native.Mathlib.Omega.{arith}
use native.Mathlib.Decide.{dec_lt}
use mathlib.Core.Path.{◌≡◌, refl, sym, ap, ◌∙◌}
use mathlib.Core.Bool.{Bool, true, false}
use mathlib.Core.List.{List}
use lib.ListN.{length, take, drop, get_or, length-drop, length-take, drop_of_length-le}
use lib.Seq.{drop-drop, take_all}
use Rattle.serial.specs.Branch.{pick, pick_true, pick-false}
use Rattle.ring.specs.Lists.{lists}
use Rattle.ring.specs.Places.{place}
use Rattle.ring.proofs.Places.{place_in}
use Rattle.snd_ring.specs.declared.SndRing.{SndRing}
use Rattle.snd_ring.specs.Marks.{mark_at}
use Rattle.snd_ring.specs.Store.{Store, store_of, segment, Shaped, Sound}
use Rattle.snd_ring.specs.Steps.{last, filled, appended_ring, appended}
use Rattle.snd_ring.proofs.Splits.{marks-length}
use Rattle.snd_ring.proofs.Slides.{here}
use Rattle.snd_ring.proofs.Views.{written-sized, written-slots}
use Rattle.block.specs.declared.sender.Sender.{Sender}
use Rattle.sending.specs.Send.{fills, joins, cut}
use Rattle.transmit.specs.Memory.{frg}
use Rattle.send.specs.Memory.{Laid, laid, last_length, row_of, queued_at, filled_at}
use Rattle.send.proofs.Numbers.{fills_facts, joins-fit}

-- ---- `last_length`: q is the place of the last index in use

pub last_by : (r : SndRing) (a : List ℕ) (n i q : ℕ) → n ≡ length a / 9 → i ≡ last r → q ≡ place n r.start i → q < n
    → (b : List ℕ) → get_or a q 0 - 1 ≡ last_length r (store_of 8 (lists a b))
unfolding last_length
last_by r a n i q e l p h b = ap (λ (k : ℕ). k - 1) (here 8 a b n r.start i 0 q e p h) ∙ rw l

-- ---- `fill_last`

module _ (mss : ℕ) (stream : Bool) (bytes : List ℕ) (s : Sender) (m : Store) (l : ℕ) (e : l ≡ last_length s.ring m) where
  pub fill_none : fills mss stream s.ring.unsent l ≡ false → m ≡ filled_at mss stream bytes s m
  unfolding filled_at
  fill_none f = sym (pick-false _ _ (ap (fills mss stream s.ring.unsent) (sym e) ∙ f))

  module _ (f : fills mss stream s.ring.unsent l ≡ true) (n : ℕ) (j : n ≡ joins mss stream s.ring.unsent l (length bytes)) where
    pub fill-some : filled 8 s.ring m (take (n - 0) bytes) frg 0 ≡ filled_at mss stream bytes s m
    unfolding filled_at
    fill-some =
        let z : n - 0 ≡ n = omega arith in
        rw (z, j, e) (sym (pick_true _ _ (ap (fills mss stream s.ring.unsent) (sym e) ∙ f)))

  -- so many bytes fit
  pub fill-needs : fills mss stream s.ring.unsent l ≡ true → Sound 8 s.ring m → mss ≤ 1476 → (k : ℕ) → k ≤ joins mss stream s.ring.unsent l (length bytes)
      → (0 < s.ring.unsent) × ((0 < mark_at m.marks s.ring.start (last s.ring))
      × (mark_at m.marks s.ring.start (last s.ring) + length (take k bytes) ≤ 1477))
  unfolding last_length
  fill-needs f o small k j =
      let h = (fills_facts mss stream s.ring.unsent l f).0 in
      let w = o.marked.waits (last s.ring) (omega arith) (omega arith) in
      let g = joins-fit mss stream s.ring.unsent l (length bytes) f in
      let t = length-take k bytes in
      (h, (omega arith, omega arith))

-- ---- `queue`: what is left to do on the memory as it is then gives what all of it gives

-- a piece ends mss bytes on, or at the end
module _ (mss at end : ℕ) (bytes : List ℕ) (inside : at ≤ length bytes) (e : end ≡ min (at + mss) (length bytes)) where
  piece : take (end - at) (drop at bytes) ≡ take mss (drop at bytes)
  piece = go (dec_lt (length bytes) (at + mss))
    where
      go : Dec (length bytes < at + mss) → take (end - at) (drop at bytes) ≡ take mss (drop at bytes)
      go (yes h) =
          let z = length-drop at bytes in
          take_all (end - at) (drop at bytes) (omega arith) ∙ sym (take_all mss (drop at bytes) (omega arith))
      go (no h) = let z : end - at ≡ mss = omega arith in ap (λ (k : ℕ). take k (drop at bytes)) z

  behind-piece : drop mss (drop at bytes) ≡ drop end bytes
  behind-piece = drop-drop mss at bytes ∙ go (dec_lt (length bytes) (at + mss))
    where
      go : Dec (length bytes < at + mss) → drop (at + mss) bytes ≡ drop end bytes
      go (yes h) = drop_of_length-le bytes {i = at + mss} (omega arith) ∙ sym (drop_of_length-le bytes {i = end} (omega arith))
      go (no h) = let z : at + mss ≡ end = omega arith in ap (λ (k : ℕ). drop k bytes) z

-- x is the memory at the start, y that after the segments that are placed
pub record Turn (count mss : ℕ) (stream : Bool) (bytes : List ℕ) (from : ℕ) (x : Laid) (left at : ℕ) (y : Laid) : Type 0 where
  pub inside : at ≤ length bytes
  pub shaped : Shaped 8 y.ring y.store
  pub slots : length y.store.marks ≡ length x.store.marks
  pub room : y.ring.reach + y.ring.unsent + left ≤ length y.store.marks
  pub rest : queued_at (cut mss stream left (drop at bytes)) y ≡ queued_at (cut mss stream count (drop from bytes)) x

-- one more is placed
module _ (r : SndRing) (m : Store) (o : Shaped 8 r m) (free : r.reach + r.unsent < length m.marks) (x y : List ℕ) (whole : length x ≡ 8) (fit : length y ≤ 1476) where
  abbrev q : ℕ
  q = place (length m.marks) r.start (r.reach + r.unsent)

  within : q < length m.marks
  within = place_in (length m.marks) r.start (r.reach + r.unsent) o.inside (omega arith)

  append-slots : length (appended 8 r m (segment x y)).marks ≡ length m.marks
  append-slots = written-slots 8 m o.sized q within (length y + 1) x y whole refl fit

  append-shaped : Shaped 8 (appended_ring r) (appended 8 r m (segment x y))
  append-shaped =
      let e = append-slots in
      let i = o.inside in
      record { sized = written-sized 8 m o.sized q within (length y + 1) x y whole refl fit; inside = omega arith; many = omega arith }

module _ (count mss : ℕ) (stream : Bool) (bytes : List ℕ) (from : ℕ) (x : Laid) where
  pub turn-first : from ≤ length bytes → Shaped 8 x.ring x.store → x.ring.reach + x.ring.unsent + count ≤ length x.store.marks
      → Turn count mss stream bytes from x count from x
  turn-first h o r = record { inside = h; shaped = o; slots = refl; room = r; rest = refl }

  -- with one less than `left` left to do, frg and the end found
  module _ (left at : ℕ) (r : SndRing) (a b : List ℕ) (t : Turn count mss stream bytes from x left at (laid r (store_of 8 (lists a b)))) (some : 0 < left) (small : mss ≤ 1476)
      (k end : ℕ) (f : k ≡ pick stream 0 (left - 1)) (e : end ≡ min (at + mss) (length bytes)) where
    abbrev m : Store
    m = store_of 8 (lists a b)

    slot_left : r.reach + r.unsent < length m.marks
    slot_left = let n = t.room in omega arith

    piece-fit : length (take (end - at) (drop at bytes)) ≤ 1476
    piece-fit = rw (length-take, length-drop) (omega arith)

    pub turn-needs : Shaped 8 r m × ((r.reach + r.unsent < length a / 9) × ((length (row_of k) ≡ 8) × (length (take (end - at) (drop at bytes)) ≤ 1476)))
    turn-needs = (t.shaped, (rw (marks-length 8 (lists a b)) at slot_left, (refl, piece-fit)))

    again : (l : ℕ) → left ≡ suc l
        → queued_at (cut mss stream left (drop at bytes)) (laid r m)
        ≡ queued_at (cut mss stream l (drop end bytes)) (laid (appended_ring r) (appended 8 r m (segment (row_of (pick stream 0 l)) (take (end - at) (drop at bytes)))))
    unfolding queued_at cut
    again l g = rw (g, piece mss at end bytes t.inside e, behind-piece mss at end bytes t.inside e)

    pub turn-next : (z : Laid) → z.ring ≡ appended_ring r → z.store ≡ appended 8 r m (segment (row_of k) (take (end - at) (drop at bytes)))
        → Turn count mss stream bytes from x (left - 1) end z
    turn-next z g w =
        let n = append-slots r m t.shaped slot_left (row_of k) (take (end - at) (drop at bytes)) refl piece-fit in
        let h = t.room in
        rw (g, w)
        (record {
          inside = omega arith;
          shaped = append-shaped r m t.shaped slot_left (row_of k) (take (end - at) (drop at bytes)) refl piece-fit;
          slots = n ∙ t.slots;
          room = omega arith;
          rest = rw f (sym (again (left - 1) (omega arith))) ∙ t.rest;
        })

  pub turn_last : (left at : ℕ) (y : Laid) → left ≡ 0 → Turn count mss stream bytes from x left at y → y ≡ queued_at (cut mss stream count (drop from bytes)) x
  unfolding queued_at cut
  turn_last left at y e t = rw e at t.rest
