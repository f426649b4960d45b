-- Each step keeps the ring sound. Assumes nothing.
use Prim.Native.Nat.{ℕ, ◌+◌, ◌-◌, ◌*◌, ◌≤◌, ◌<◌}
use native.Mathlib.Omega.{arith}
use native.Mathlib.Decide.{ℕ_discrete}
use mathlib.Core.Path.{◌≡◌, ap, ◌∙◌, sym}
use mathlib.Core.List.{List}
use lib.ListN.{length}
use Rattle.ring.specs.Lists.{Lists}
use Rattle.ring.proofs.Places.{by_less, place_in}
use Rattle.rcv_ring.specs.declared.RcvRing.{RcvRing}
use Rattle.rcv_ring.specs.Places.{mark_at, Sound}
use Rattle.rcv_ring.specs.Moves.{reached, stored_at, moved_by, dropped_by}
use Rattle.rcv_ring.specs.Views.{mark_past}
use Rattle.rcv_ring.proofs.Steps.{mark_on, by-dropped}
use Rattle.rcv_ring.proofs.Stores.{records-length, room-length, word_in, word_gap, mark-own}

module _ (r : RcvRing) (l : Lists) (w : Sound r l) where
  pub store-sound : (d frg : ℕ) (x : List ℕ) → r.queued + d < length l.records → frg < 65536 → length x ≤ 1476 → Sound (reached r d) (stored_at r l d frg x)
  store-sound d frg x h low fits =
      let s = w.shaped in
      let e = records-length r l w d frg x h low fits in
      record {
        shaped = record {
          many = let a = s.many in omega arith;
          room-size = room-length r l w d frg x h low fits ∙ s.room-size ∙ ap (λ (n : ℕ). n * 1476) (sym e);
          started = let a = s.started in omega arith;
          within = let a = s.within in omega arith;
        };
        marked = record {
          full = λ i a. rw (word_in r l w d frg x h low fits i (omega arith) (λ p. omega arith)) (w.marked.full i a);
          short = λ i a. by_less i (r.queued + r.reach) (λ y. inside i y (ℕ_discrete i (r.queued + d))) (λ y. past i y (omega arith) (ℕ_discrete i (r.queued + d)));
        };
      }
    where
      own : (i : ℕ) → i ≡ r.queued + d → mark_at r (stored_at r l d frg x).records i ≤ 1477
      own i e = let o = mark-own r l w d frg x h low fits in rw e (omega arith)

      inside : (i : ℕ) → i < r.queued + r.reach → Dec (i ≡ r.queued + d) → mark_at r (stored_at r l d frg x).records i ≤ 1477
      inside i y (yes e) = own i e
      inside i y (no n) = rw (word_in r l w d frg x h low fits i y n) (w.marked.short i y)

      past : (i : ℕ) → r.queued + r.reach ≤ i → i ≤ r.queued + d → Dec (i ≡ r.queued + d) → mark_at r (stored_at r l d frg x).records i ≤ 1477
      past i y a (yes e) = own i e
      past i y a (no n) = rw (word_gap r l w d frg x h low fits i y (omega arith)) (omega arith)

  pub moved-sound : (k : ℕ) → k ≤ r.reach → ((i : ℕ) → i < k → mark_past r l.records i ≡ 0 → ⊥) → Sound (moved_by k r) l
  moved-sound k h all =
      let s = w.shaped in
      record {
        shaped = record { many = s.many; room-size = s.room-size; started = s.started; within = let a = s.within in omega arith };
        marked = record {
          full = λ i b. by_less i r.queued (λ y. w.marked.full i y)
              (λ y.
              let q : r.queued + (i - r.queued) ≡ i = omega arith in
              let z = rw q at (all (i - r.queued) (omega arith)) in
              by_less 0 (mark_at r l.records i) (λ t. t) (λ t. absurd (z (omega arith))));
          short = λ i b. w.marked.short i (omega arith);
        };
      }

  pub dropped-sound : (k : ℕ) → k ≤ r.queued → Sound (dropped_by (length l.records) k r) l
  dropped-sound k h =
      let s = w.shaped in
      let a = s.started in
      let o = s.within in
      by-dropped r l s k h
      (λ n e. rw e (record {
        shaped = record { many = s.many; room-size = s.room-size; started = omega arith; within = omega arith };
        marked = record { full = λ i b. absurd (omega arith); short = λ i b. absurd (omega arith) };
      }))
      (λ e. rw e (record {
        shaped = record { many = s.many; room-size = s.room-size; started = place_in (length l.records) r.start k a (omega arith); within = omega arith };
        marked = record {
          full = λ i b. rw (mark_on r l s k h i (omega arith)) (w.marked.full (k + i) (omega arith));
          short = λ i b. rw (mark_on r l s k h i (omega arith)) (w.marked.short (k + i) (omega arith));
        };
      }))
