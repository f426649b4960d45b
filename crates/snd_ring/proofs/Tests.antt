-- The test `marks_fit` is true exactly where the record `Marked` holds. Assumes nothing.
use mathlib.Core.Path.{◌≡◌, refl, sym}
use mathlib.Core.Bool.{Bool, true, false, ◌&&◌, ◌||◌, not}
use Prim.Native.Nat.{ℕ, ◌+◌, ◌≤◌, ◌<◌}
use native.Mathlib.Omega.{arith}
use native.Mathlib.Decide.{ℕ_discrete}
use mathlib.Core.List.{List}
use lib.ListN.{get_or}
use lib.Dec.{eqb}
use borrow.Author.Tests.{eqb-true, eq-eqb, ne_eqb}
use Rattle.ring.proofs.Places.{by_less}
use Rattle.ring.proofs.Counting.{count_under, under-count, count_all, all-count}
use Rattle.snd_ring.specs.Marks.{mark_at, lives, faults}
use Rattle.snd_ring.specs.Store.{Marked, marks_fit}
use Rattle.snd_ring.specs.declared.SndRing.{SndRing}

both : (a b : Bool) → (a && b) ≡ true → (a ≡ true) × (b ≡ true)
both true b h = (refl, h)
both false b h = absurd (let y : ◌≡◌ {A = ℕ} 0 1 = cc in omega arith)

-- the last test
module _ (n k : ℕ) where
  normal_of : (eqb n 0 || not (eqb k 0)) ≡ true → 0 < n → k ≡ 0 → ⊥
  normal_of h a z = let e = rw (ne_eqb n 0 (λ q. omega arith), eq-eqb k 0 z) at h in let y : ◌≡◌ {A = ℕ} 0 1 = cc in omega arith

  of-normal : (0 < n → k ≡ 0 → ⊥) → (eqb n 0 || not (eqb k 0)) ≡ true
  of-normal h = go (ℕ_discrete n 0)
    where
      go : Dec (n ≡ 0) → (eqb n 0 || not (eqb k 0)) ≡ true
      go (yes e) = rw (eq-eqb n 0 e)
      go (no d) = rw (ne_eqb n 0 d, ne_eqb k 0 (h (omega arith)))

-- what waits has no gap: as a count
pub all_live : (l : List ℕ) (s from n : ℕ) → ((i : ℕ) → from ≤ i → i < from + n → mark_at l s i ≡ 0 → ⊥) → lives l s from n ≡ n
all_live l s from n h = all-count 1 l s from n (λ i a b. let z = h i a b in omega arith)

module _ (r : SndRing) (l : List ℕ) where
  fits : faults l r.start 0 r.reach ≡ 0 → faults l r.start r.reach r.unsent ≡ 0 → (i : ℕ) → i < r.reach + r.unsent → mark_at l r.start i ≤ 1477
  fits f g i k =
      by_less i r.reach
      (λ x. let h = count_under 1478 l r.start 0 r.reach f i (omega arith) (omega arith) in omega arith)
      (λ x. let h = count_under 1478 l r.start r.reach r.unsent g i (omega arith) (omega arith) in omega arith)

  live : lives l r.start r.reach r.unsent ≡ r.unsent → (i : ℕ) → r.reach ≤ i → i < r.reach + r.unsent → mark_at l r.start i ≡ 0 → ⊥
  live e i x y z = let h = count_all 1 l r.start r.reach r.unsent e i x y in omega arith

  pub fit-marked : marks_fit r l ≡ true → Marked r l
  unfolding marks_fit
  fit-marked h =
      let a = both _ _ h in
      let b = both _ _ a.1 in
      let c = both _ _ b.1 in
      let d = both _ _ c.1 in
      record {
        fit = fits (eqb-true _ _ a.0) (eqb-true _ _ c.0);
        waits = live (eqb-true _ _ d.0);
        counted = sym (eqb-true _ _ b.0);
        normal = normal_of r.reach (get_or l r.start 0) d.1;
      }

  no-faults : Marked r l → (from n : ℕ) → from + n ≤ r.reach + r.unsent → faults l r.start from n ≡ 0
  no-faults x from n h = under-count 1478 l r.start from n (λ i a b. let f = x.fit i (omega arith) in omega arith)

  pub marked-fit : Marked r l → marks_fit r l ≡ true
  unfolding marks_fit
  marked-fit x =
      rw (
        eq-eqb _ _ (no-faults x 0 r.reach (omega arith)),
        eq-eqb _ _ (sym x.counted),
        eq-eqb _ _ (no-faults x r.reach r.unsent (omega arith)),
        eq-eqb _ _ (all_live l r.start r.reach r.unsent x.waits),
        of-normal r.reach (get_or l r.start 0) x.normal,
      )
