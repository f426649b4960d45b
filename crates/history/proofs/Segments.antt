-- One segment, as input's specs tell it: by cases, what fits, and what an adopted conv leaves. Assumes nothing.
use Rattle.std.specs.Prelude.{Result, Ok, Err}
use Prim.Native.Nat.{ℕ, ◌+◌, ◌-◌, ◌≤◌}
use native.Mathlib.Omega.{arith}
use mathlib.Core.Path.{◌≡◌, refl}
use mathlib.Core.Bool.{Bool, true, false}
use mathlib.Core.List.{List}
use lib.ListN.{length}
use borrow.Author.Tests.{ltb-false}
use Rattle.serial.specs.Branch.{pick}
use Rattle.ring.proofs.Rows.{part_length}
use Rattle.wire.specs.declared.Header.{Header}
use Rattle.wire.specs.declared.Kind.{Kind}
use Rattle.wire.specs.Header.{header_at}
use Rattle.block.specs.declared.Kcp.{Kcp}
use Rattle.block.specs.declared.refusal.Refusal.{Refusal}
use Rattle.input.specs.Segment.{Met, with_block, adopts, adopted, begun, effect_at, payload_at, verdict_of, act_at, segment_at}

-- what holds of either side holds of the choice
pub pick_of : {A : Type 0} (Q : A → Type 0) (t : Bool) {a b : A} → (t ≡ true → Q a) → Q b → Q (pick t a b)
unfolding pick
pick_of Q true f g = f refl
pick_of Q false f g = g

-- what a choice gave was one of the two
by_cases : {A C : Type 0} (b : Bool) (x y z : A) → pick b x y ≡ z → (x ≡ z → C) → (b ≡ false → y ≡ z → C) → C
unfolding pick
by_cases true x y z e f g = f e
by_cases false x y z e f g = g refl e

not_both : {C : Type 0} (y : Refusal) (k : Kind) → Err y ≡ Ok k → C
not_both y k e = let z : ◌≡◌ {A = ℕ} 0 1 = cc in absurd (omega arith)

-- a segment that is not refused has no more bytes than are left
pub fits_left : (own : ℕ) (waiting : Bool) (h : Header) (left : ℕ) (k : Kind) → verdict_of own waiting h left ≡ Ok k → h.len ≤ left
unfolding verdict_of
fits_left own waiting h left k e =
    by_cases _ _ _ _ e (λ a. not_both _ k a) (λ _ b. by_cases _ _ _ _ b (λ a. not_both _ k a) (λ t _. ltb-false left h.len t))

-- a payload behind a header within 1,500 bytes fits a slot
pub payload-fits : (s : List ℕ) (at len : ℕ) → at + 24 + len ≤ length s → length s ≤ 1500 → length (payload_at s at len) ≤ 1476
payload-fits s at len h l = let e = part_length s (at + 24) len h in omega arith

-- ---- an adopted conv leaves all but the settings

module _ (met : ℕ) (k : Kcp) where
  pub adopted-receiver : (adopted met k).receiver ≡ k.receiver
  unfolding adopted
  adopted-receiver = pick_of (λ (x : Kcp). x.receiver ≡ k.receiver) (adopts k.settings.conv k.settings.input_conv met) (λ h. refl) refl

  pub adopted-acklist : (adopted met k).acklist ≡ k.acklist
  unfolding adopted
  adopted-acklist = pick_of (λ (x : Kcp). x.acklist ≡ k.acklist) (adopts k.settings.conv k.settings.input_conv met) (λ h. refl) refl

-- ---- what holds of what each verdict leaves holds of what the segment leaves

module _ (s : List ℕ) (at : ℕ) (m : Met) (more : at + 24 ≤ length s) where
  abbrev h : Header
  h = header_at s at

  abbrev pub known_at : Kcp
  known_at = adopted (header_at s at).conv m.block

  pub segment_by : (P : Met → Type 0)
      → P (with_block m known_at)
      → ((kind : Kind) → at + 24 + h.len ≤ length s → P (effect_at kind h (payload_at s at h.len) (with_block m (begun h known_at m.snd))))
      → P (segment_at s at m).met
  unfolding segment_at act_at
  segment_by P a b = go (verdict_of m.block.settings.conv m.block.settings.input_conv (header_at s at) (length s - at - 24)) refl
    where
      go : (v : Result Kind Refusal) → verdict_of m.block.settings.conv m.block.settings.input_conv (header_at s at) (length s - at - 24) ≡ v → P (act_at s at (header_at s at) m v).met
      go (Ok kind) e =
          let l = fits_left m.block.settings.conv m.block.settings.input_conv (header_at s at) (length s - at - 24) kind e in
          b kind (omega arith)
      go (Err why) e = a
