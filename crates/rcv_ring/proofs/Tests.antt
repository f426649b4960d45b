-- The test of a ring's words is true exactly where they are as they have to be. Assumes nothing.
use Prim.Native.Nat.{ℕ}
use native.Mathlib.Omega.{arith}
use mathlib.Core.Path.{◌≡◌, refl}
use mathlib.Core.Bool.{Bool, true, false, ◌&&◌}
use mathlib.Core.List.{List}
use borrow.Author.Tests.{eq-eqb, eqb-true}
use Rattle.ring.proofs.Places.{by_less}
use Rattle.ring.proofs.Counting.{count_under, under-count, count_all, all-count}
use Rattle.rcv_ring.specs.declared.RcvRing.{RcvRing}
use Rattle.rcv_ring.specs.Places.{Marked, marks_fit}

both : (a b : Bool) → (a && b) ≡ true → (a ≡ true) × (b ≡ true)
both true b e = (refl, e)
both false b e = let z : ◌≡◌ {A = ℕ} 0 1 = cc in absurd (omega arith)

module _ (r : RcvRing) (l : List ℕ) where
  pub fit-marked : marks_fit r l ≡ true → Marked r l
  unfolding marks_fit
  fit-marked t =
      let a = both _ _ t in
      let b = both _ _ a.1 in
      let f = count_all 65536 l r.start 0 r.queued (eqb-true _ _ a.0) in
      let g = count_under 96862208 l r.start 0 r.queued (eqb-true _ _ b.0) in
      let h = count_under 96862208 l r.start r.queued r.reach (eqb-true _ _ b.1) in
      record {
        full = λ i p. let x = f i (omega arith) (omega arith) in omega arith;
        short = λ i p. by_less i r.queued (λ q. let x = g i (omega arith) (omega arith) in omega arith) (λ q. let x = h i q p in omega arith);
      }

  pub marked-fit : Marked r l → marks_fit r l ≡ true
  unfolding marks_fit
  marked-fit m =
      rw (
        eq-eqb _ _ (all-count 65536 l r.start 0 r.queued (λ i a b. let x = m.full i (omega arith) in omega arith)),
        eq-eqb _ _ (under-count 96862208 l r.start 0 r.queued (λ i a b. let x = m.short i (omega arith) in omega arith)),
        eq-eqb _ _ (under-count 96862208 l r.start r.queued r.reach (λ i a b. let x = m.short i b in omega arith)),
      )
