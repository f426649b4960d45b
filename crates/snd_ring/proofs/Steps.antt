-- What the functions find and leave, in the words of `specs/Steps.antt`. Assumes nothing.
use mathlib.Core.Path.{◌≡◌, ap, ◌∙◌}
use Prim.Native.Nat.{ℕ, ◌+◌, ◌-◌, ◌/◌, ◌<◌}
use native.Mathlib.Omega.{arith}
use mathlib.Core.List.{List}
use lib.ListN.{length, set, take, drop, length-set}
use borrow.Author.Tests.{eq-eqb, ne_eqb}
use Rattle.ring.specs.Lists.{lists}
use Rattle.ring.specs.Places.{place}
use Rattle.snd_ring.specs.Marks.{mark_at, passed}
use Rattle.snd_ring.specs.Store.{Store, store_of}
use Rattle.snd_ring.specs.Steps.{ring, with_marks, settled, advanced, dropped, gapped, taken_out}
use Rattle.snd_ring.specs.declared.SndRing.{SndRing}
use Rattle.snd_ring.proofs.Splits.{place_by, store-mark, part-marks}

-- ---- `settle`

pub settled_none : (r : SndRing) → r.reach + r.unsent ≡ 0 → settled r ≡ ring 0 r.reach r.flying r.unsent
unfolding settled
settled_none r h = rw (eq-eqb (r.reach + r.unsent) 0 h)

pub settled-some : (r : SndRing) → (r.reach + r.unsent ≡ 0 → ⊥) → settled r ≡ r
unfolding settled
settled-some r h = rw (ne_eqb (r.reach + r.unsent) 0 h)

-- ---- `drop_front` and `take_out`

pub dropped_by : (r : SndRing) (l : List ℕ) (k q t : ℕ) → t ≡ passed (mark_at l r.start) 0 r.reach k → q ≡ place (length l) r.start t
    → settled (ring q (r.reach - t) (r.flying - k) r.unsent) ≡ dropped r l k
unfolding dropped advanced
dropped_by r l k q t e f = rw (f, e)

module _ (w : ℕ) (r : SndRing) (a b : List ℕ) (n i q : ℕ) (e : n ≡ length a / (w + 1)) (p : q ≡ place n r.start i) (h : q < n) where
  abbrev m : Store
  m = store_of w (lists a b)

  pub gapped_by : store_of w (lists (set a q 0) b) ≡ with_marks m (gapped r m.marks i)
  unfolding gapped
  gapped_by = store-mark w a b q 0 (omega arith) ∙ rw (place_by w (lists a b) n r.start i q e p)

  pub taken_by : dropped (ring r.start r.reach (r.flying - 1) r.unsent) (take (n - 0) (drop 0 (set a q 0))) 0 ≡ taken_out r m.marks i
  unfolding taken_out
  taken_by = rw (part-marks w (set a q 0) b n (rw length-set e)) (ap (λ (m : Store). dropped (ring r.start r.reach (r.flying - 1) r.unsent) m.marks 0) gapped_by)
