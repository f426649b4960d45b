-- The search over runs of places: where one ends, and that a run, or two round the ring's end, are the indices in flight. Assumes nothing.
use Prim.Native.Nat.{ℕ, ◌+◌, ◌-◌, ◌/◌, ◌≤◌, ◌<◌}
use native.Mathlib.Omega.{arith}
use mathlib.Core.Path.{◌≡◌, sym, ap, ◌∙◌, subst}
use mathlib.Core.Bool.{Bool, true, false, ◌||◌}
use mathlib.Core.List.{List, []}
use lib.ListN.{length, get_or}
use lib.Dec.{eqb}
use borrow.Author.Tests.{eq-eqb, ne_eqb}
use Rattle.std.proofs.Common.{Some, None}
use Rattle.ring.specs.Lists.{lists}
use Rattle.ring.specs.Places.{place}
use Rattle.ring.specs.Records.{number_at}
use Rattle.ring.proofs.Places.{place-low, place-high, by_place}
use Rattle.snd_ring.specs.declared.SndRing.{SndRing}
use Rattle.snd_ring.specs.Store.{Store, store_of}
use Rattle.snd_ring.proofs.Marks.{by-live}
use Rattle.snd_ring.proofs.Splits.{marks-length, mark-read}
use Rattle.sending.specs.Rules.{stops}
use Rattle.transmit.specs.Memory.{sn, number_in, ends_at, ends_in, found_at, First}
use Rattle.transmit.proofs.Numbers.{by_eq, onward_to, ends_none, ends-here, ends-stop, finds, finds_none, number_is}

-- ---- what the code reads at place q tells whether the search ends there

module _ (x : ℕ) (a : List ℕ) (q : ℕ) (inside : q < length a / 9) where
  abbrev m : Store
  m = store_of 8 (lists a [])

  mark-here : get_or a q 0 ≡ get_or m.marks q 0
  mark-here = mark-read 8 a [] q 0 (omega arith)

  pub on-gap : get_or a q 0 ≡ 0 → ends_at x m q ≡ false
  unfolding ends_at
  on-gap z = rw (eq-eqb _ 0 (sym mark-here ∙ z))

  -- n was read there, and t tells whether it ends the search
  module _ {n : ℕ} (d : n ≡ number_at 8 m.rows q sn) {t : Bool} (f : t ≡ (eqb n x || stops x n)) where
    pub ends_by : t ≡ true → (get_or a q 0 ≡ 0 → ⊥) → ends_at x m q ≡ true
    unfolding ends_at
    ends_by h live = rw (ne_eqb _ 0 (λ z. live (mark-here ∙ z)), ← d, ← f, h)

    pub on_by : t ≡ false → ends_at x m q ≡ false
    unfolding ends_at
    on_by h = by-live (get_or m.marks q 0) (λ z _. rw (eq-eqb _ 0 z)) (λ z _. rw (ne_eqb _ 0 z, ← d, ← f, h))

-- ---- one more is passed

pub passed_more : (f : ℕ → Bool) (from k : ℕ) → ((q : ℕ) → from ≤ q → q < k → f q ≡ false) → f k ≡ false → (q : ℕ) → from ≤ q → q < k + 1 → f q ≡ false
passed_more f from k g h q low high = by_eq q k (λ e. rw e h) (λ d. g q low (omega arith))

-- ---- the indices in flight are one run of places, or two

module _ (f : ℕ → Bool) (p s n : ℕ) where
  abbrev at : ℕ → Bool
  at i = f (place p s i)

  low_at : (i : ℕ) → s + i < p → at i ≡ f (s + i)
  low_at i h = ap f (place-low p s i h)

  high_at : (i : ℕ) → p ≤ s + i → at i ≡ f (s + i - p)
  high_at i h = ap f (place-high p s i h)

  pub one-run : s + n ≤ p → (k : ℕ) → First f s (s + n) k → First at 0 n (k - s)
  one-run h k o =
      let a = o.low in
      let b = o.high in
      record {
        low = omega arith;
        high = omega arith;
        passed = λ i _ l. low_at i (omega arith) ∙ o.passed (s + i) (omega arith) (omega arith);
        ended = λ l. let e : s + (k - s) ≡ k = omega arith in low_at (k - s) (omega arith) ∙ rw e (o.ended (omega arith));
      }

  module _ (inside : s < p) (over : p < s + n) where
    pub in-first : (k : ℕ) → First f s p k → k < p → First at 0 n (k - s)
    in-first k o h =
        let a = o.low in
        record {
          low = omega arith;
          high = omega arith;
          passed = λ i _ l. low_at i (omega arith) ∙ o.passed (s + i) (omega arith) (omega arith);
          ended = λ l. let e : s + (k - s) ≡ k = omega arith in low_at (k - s) (omega arith) ∙ rw e (o.ended h);
        }

    pub in-second : (k : ℕ) → First f s p k → p ≤ k → (j : ℕ) → First f 0 (n - (p - s)) j → First at 0 n (p - s + j)
    in-second k o h j u =
        let b = u.high in
        record {
          low = omega arith;
          high = omega arith;
          passed = λ i _ l. by_place p s i (λ c e. ap f e ∙ o.passed (s + i) (omega arith) (omega arith)) (λ c e. ap f e ∙ u.passed (s + i - p) (omega arith) (omega arith));
          ended = λ l. let e : s + (p - s + j) - p ≡ j = omega arith in high_at (p - s + j) (omega arith) ∙ rw e (u.ended (omega arith));
        }

-- the slots that the code counts are those of the ring
pub by_slots : (x : ℕ) (r : SndRing) (a : List ℕ) {slots : ℕ} → slots ≡ length a / 9 → {k : ℕ} → First (λ i. ends_at x (store_of 8 (lists a [])) (place slots r.start i)) 0 r.reach k
    → First (ends_in x r (store_of 8 (lists a []))) 0 r.reach k
by_slots x r a e {k} o = subst (λ (p : ℕ). First (λ i. ends_at x (store_of 8 (lists a [])) (place p r.start i)) 0 r.reach k) (e ∙ sym (marks-length 8 (lists a []))) o

-- ---- where the indices end the search, it ends

module _ (x : ℕ) (r : SndRing) (a : List ℕ) (k : ℕ) (o : First (ends_in x r (store_of 8 (lists a []))) 0 r.reach k) where
  abbrev here : Store
  here = store_of 8 (lists a [])

  pub none-met : r.reach ≤ k → (room : List ℕ) → None ≡ found_at x r (store_of 8 (lists a room))
  none-met h room = finds_none x r a k room (ends_none x r here k (onward_to x r here k o.high (λ j l. o.passed j (omega arith) l)) h)

  -- q is the place of k, and n the number there
  module _ (h : k < r.reach) {slots q : ℕ} (e : slots ≡ length a / 9) (p : (q ≡ place slots r.start k) × (q < slots)) {n : ℕ} (d : n ≡ number_at 8 here.rows q sn) where
    number-there : n ≡ number_in r here k sn
    number-there = d ∙ number_is r a [] k e p sn

    pub is-met : n ≡ x → (room : List ℕ) → Some k ≡ found_at x r (store_of 8 (lists a room))
    is-met f room =
        finds x r a k room (ends-here x r here k (onward_to x r here k o.high (λ j l. o.passed j (omega arith) l)) h (o.ended h) (sym number-there ∙ f))

    pub is_past : (n ≡ x → ⊥) → (room : List ℕ) → None ≡ found_at x r (store_of 8 (lists a room))
    is_past f room =
        finds_none x r a k room (ends-stop x r here k (onward_to x r here k o.high (λ j l. o.passed j (omega arith) l)) h (o.ended h) (λ g. f (number-there ∙ g)))
