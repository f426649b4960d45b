-- The laws of the walk over a datagram: the outcome of the whole is the outcome from here. Assumes nothing.
use Rattle.std.specs.Prelude.{Result, Ok, Err}
use Prim.Native.Nat.{ℕ, zero, suc, ◌+◌, ◌-◌, ◌≤◌, ◌<◌}
use native.Mathlib.Omega.{arith}
use mathlib.Core.Path.{◌≡◌, refl, sym, ap, ◌∙◌}
use mathlib.Core.Bool.{Bool, true, false}
use mathlib.Core.List.{List}
use lib.ListN.{length}
use borrow.Author.Tests.{le-leb, lt-leb, ltb-false}
use Rattle.serial.specs.Branch.{pick}
use Rattle.wire.specs.declared.Header.{Header}
use Rattle.wire.specs.declared.Kind.{Kind}
use Rattle.wire.specs.Header.{header_at}
use Rattle.block.specs.declared.refusal.Refusal.{Refusal}
use Rattle.input.specs.Segment.{Met, End, through, stopped, Walked, verdict_of, act_at, segment_at, answer_of, SegmentAs}
use Rattle.input.specs.Datagram.{onward, walk_from, walk_of, WalkedAs}

-- what a choice gave was one of the two
by_cases : {A C : Type 0} (b : Bool) (x y z : A) → pick b x y ≡ z → (x ≡ z → C) → (b ≡ false → y ≡ z → C) → C
unfolding pick
by_cases true x y z e f g = f e
by_cases false x y z e f g = g refl e

not_both : {C : Type 0} (y : Refusal) (k : Kind) → Err y ≡ Ok k → C
not_both y k e = let z : ◌≡◌ {A = ℕ} 0 1 = cc in absurd (omega arith)

-- a segment that is not refused has no more bytes than are left
pub fits_left : (own : ℕ) (waiting : Bool) (h : Header) (left : ℕ) (k : Kind) → verdict_of own waiting h left ≡ Ok k → h.len ≤ left
unfolding verdict_of
fits_left own waiting h left k e =
    by_cases _ _ _ _ e (λ a. not_both _ k a) (λ _ b. by_cases _ _ _ _ b (λ a. not_both _ k a) (λ t _. ltb-false left h.len t))

-- ---- an end, by its answer

pub through_of : (e : End) (n : ℕ) → Ok n ≡ answer_of e → e ≡ through n
through_of (through m) n q = cc
through_of (stopped why) n q = let z : ◌≡◌ {A = ℕ} 0 1 = cc in absurd (omega arith)

pub stopped_of : (e : End) (why : Refusal) → Err why ≡ answer_of e → e ≡ stopped why
stopped_of (through m) why q = let z : ◌≡◌ {A = ℕ} 0 1 = cc in absurd (omega arith)
stopped_of (stopped w) why q = cc

ends_in : (m n : ℕ) → through m ≡ through n → m ≡ n
ends_in m n e = cc

not_through : {C : Type 0} (why : Refusal) (n : ℕ) → stopped why ≡ through n → C
not_through why n e = let z : ◌≡◌ {A = ℕ} 0 1 = cc in absurd (omega arith)

-- ---- a segment, and what comes behind it

module _ (go : ℕ → Met → Walked) (w : Walked) where
  pub onward-goes : {n : ℕ} → w.end ≡ through n → onward go w ≡ go n w.met
  unfolding onward
  onward-goes q = ap (λ (e : End). onward go (record { met = w.met; end = e })) q

  pub onward_stops : {why : Refusal} → w.end ≡ stopped why → onward go w ≡ w
  unfolding onward
  onward_stops q = ap (λ (e : End). onward go (record { met = w.met; end = e })) q ∙ ap (λ (e : End). record { met = w.met; end = e }) (sym q)

module _ (s : List ℕ) where
  -- where a segment that is not refused ends: past its header and within the datagram
  pub reach : (at : ℕ) (m : Met) (n : ℕ) → at + 24 ≤ length s → (segment_at s at m).end ≡ through n → (at + 24 ≤ n) × (n ≤ length s)
  unfolding segment_at act_at
  reach at m n h e = go (verdict_of m.block.settings.conv m.block.settings.input_conv (header_at s at) (length s - at - 24)) refl e
    where
      go : (v : Result Kind Refusal) → verdict_of m.block.settings.conv m.block.settings.input_conv (header_at s at) (length s - at - 24) ≡ v
          → (act_at s at (header_at s at) m v).end ≡ through n → (at + 24 ≤ n) × (n ≤ length s)
      go (Ok k) q r =
          let a = fits_left m.block.settings.conv m.block.settings.input_conv (header_at s at) (length s - at - 24) k q in
          let b = ends_in _ _ r in
          (omega arith, omega arith)
      go (Err y) q r = not_through y n r

  -- the whole walk is the walk from here
  pub record Here (first : Met) (at : ℕ) (m : Met) : Type 0 where
    pub fuel : ℕ
    pub enough : length s ≤ at + fuel
    pub within : at ≤ length s
    pub same : walk_of s first ≡ walk_from s fuel at m

  pub here-first : (m : Met) → Here m 0 m
  unfolding walk_of
  here-first m = record { fuel = length s; enough = omega arith; within = omega arith; same = refl }

  module _ (at : ℕ) (m : Met) where
    -- one turn of the definition
    turn : (fuel : ℕ) → at + 24 ≤ length s → walk_from s (suc fuel) at m ≡ onward (λ next n. walk_from s fuel next n) (segment_at s at m)
    unfolding walk_from pick
    turn fuel h = rw (le-leb _ _ h)

    goes_from : (first : Met) (fuel n : ℕ) → length s ≤ at + fuel → walk_of s first ≡ walk_from s fuel at m → at + 24 ≤ length s → (segment_at s at m).end ≡ through n
        → Here first n (segment_at s at m).met
    goes_from first zero n a w h q = absurd (omega arith)
    goes_from first (suc f) n a w h q =
        let z = reach at m n h q in
        record {
          fuel = f;
          enough = let y = z.0 in omega arith;
          within = z.1;
          same = w ∙ turn f h ∙ onward-goes (λ next x. walk_from s f next x) (segment_at s at m) q;
        }

    stops_from : (whole : Walked) (fuel : ℕ) (why : Refusal) → length s ≤ at + fuel → whole ≡ walk_from s fuel at m → at + 24 ≤ length s → (segment_at s at m).end ≡ stopped why
        → whole ≡ segment_at s at m
    stops_from whole zero why a w h q = absurd (omega arith)
    stops_from whole (suc f) why a w h q = w ∙ turn f h ∙ onward_stops (λ next x. walk_from s f next x) (segment_at s at m) q

    ends_from : (whole : Walked) (fuel : ℕ) → whole ≡ walk_from s fuel at m → length s < at + 24 → whole ≡ record { met = m; end = through at }
    unfolding walk_from pick
    ends_from whole zero w h = w
    ends_from whole (suc f) w h = w ∙ rw (lt-leb _ _ h)

  -- What the loop asks, each from the facts that it has in hand.
  module _ {first : Met} {at : ℕ} {m : Met} (here : Here first at m) where
    -- too few bytes are left for a header
    pub ends : length s - at < 24 → WalkedAs s first m (Ok at)
    ends h =
        let w = here.within in
        let e = sym (ends_from at m (walk_of s first) here.fuel here.same (omega arith)) in
        record { met = ap (λ (x : Walked). x.met) e; answered = ap (λ (x : Walked). answer_of x.end) e }

    module _ (h : 24 ≤ length s - at) {m' : Met} {b : Result ℕ Refusal} (e : SegmentAs s at m m' b) where
      pub more : at + 24 ≤ length s
      more = let w = here.within in omega arith

      pub stops : {why : Refusal} → b ≡ Err why → WalkedAs s first m' b
      stops {why} q =
          let f = sym (stops_from at m (walk_of s first) here.fuel why here.enough here.same more (stopped_of (segment_at s at m).end why (sym q ∙ e.answered))) in
          record { met = e.met ∙ ap (λ (x : Walked). x.met) f; answered = e.answered ∙ ap (λ (x : Walked). answer_of x.end) f }

      module _ {n : ℕ} (q : b ≡ Ok n) where
        goes_on : (segment_at s at m).end ≡ through n
        goes_on = through_of (segment_at s at m).end n (sym q ∙ e.answered)

        pub goes : Here first n m'
        goes = rw e.met (goes_from at m first here.fuel n here.enough here.same more goes_on)

        pub falls : (at + 24 ≤ n) × (n ≤ length s)
        falls = reach at m n more goes_on
