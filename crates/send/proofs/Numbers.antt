-- The numbers of a send, as the code computes them and as the rule says them. Assumes nothing.
use Prim.Native.Nat.{ℕ, ◌+◌, ◌-◌, ◌*◌, ◌/◌, ◌%◌, ◌≤◌, ◌<◌, min}
use Rattle.std.proofs.Math.Nat.{add-zero, div-eq_of_lt, mod-eq_of_lt, mul-add-div_right}
use Rattle.std.proofs.lemmas.Grind.{div_ceil_times}
use native.Mathlib.Omega.{arith}
use native.Mathlib.Decide.{dec_lt}
use mathlib.Core.Path.{◌≡◌, refl, sym, ap, ◌∙◌}
use mathlib.Core.Bool.{Bool, true, false}
use lib.Dec.{ltb}
use borrow.Author.Tests.{lt-ltb, le-ltb, le-leb, lt-leb, eq-eqb, ne_eqb}
use Rattle.serial.specs.Branch.{pick_true, pick-false}
use Rattle.sending.specs.Send.{fills, joins, pieces, too_big, pool_full, fits, verdict}

unlike : false ≡ true → ⊥
unlike e = let z : ◌≡◌ {A = ℕ} 0 1 = cc in omega arith

-- ---- `fills` and `joins`

module _ (mss : ℕ) (stream : Bool) (queued last : ℕ) where
  pub fills_plain : stream ≡ false → fills mss stream queued last ≡ false
  unfolding fills
  fills_plain e = rw e

  pub fills-some : stream ≡ true → 0 < queued → fills mss stream queued last ≡ ltb last mss
  unfolding fills
  fills-some e h = rw (e, lt-ltb 0 queued h)

  module _ (n : ℕ) where
    pub joins_none : fills mss stream queued last ≡ false → joins mss stream queued last n ≡ 0
    unfolding joins
    joins_none e = pick-false _ _ e

    pub joins-some : fills mss stream queued last ≡ true → joins mss stream queued last n ≡ min (mss - last) n
    unfolding joins
    joins-some e = pick_true _ _ e

-- no segment waits
pub fills-zero : (mss : ℕ) (stream : Bool) (last : ℕ) → fills mss stream 0 last ≡ false
unfolding fills
fills-zero mss true last = refl
fills-zero mss false last = refl

-- where there is one to fill it waits, and it is shorter than mss
pub fills_facts : (mss : ℕ) (stream : Bool) (queued last : ℕ) → fills mss stream queued last ≡ true → (0 < queued) × (last < mss)
fills_facts mss false queued last e = absurd (unlike (sym (fills_plain mss false queued last refl) ∙ e))
fills_facts mss true queued last e = go (dec_lt 0 queued) (dec_lt last mss)
  where
    go : Dec (0 < queued) → Dec (last < mss) → (0 < queued) × (last < mss)
    go (yes h) (yes k) = (h, k)
    go (yes h) (no k) = absurd (unlike (sym (fills-some mss true queued last refl h ∙ le-ltb last mss (omega arith)) ∙ e))
    go (no h) k = let z : queued ≡ 0 = omega arith in absurd (unlike (sym (fills-zero mss true last) ∙ (rw z at e)))

module _ (mss : ℕ) (stream : Bool) (queued last n : ℕ) where
  pub joins-within : joins mss stream queued last n ≤ n
  joins-within = go (fills mss stream queued last) refl
    where
      go : (b : Bool) → fills mss stream queued last ≡ b → joins mss stream queued last n ≤ n
      go true e = let j = joins-some mss stream queued last n e in omega arith
      go false e = let j = joins_none mss stream queued last n e in omega arith

  -- what joins still fits a slot that mss fits
  pub joins-fit : fills mss stream queued last ≡ true → last + joins mss stream queued last n ≤ mss
  joins-fit e = let j = joins-some mss stream queued last n e in let f = (fills_facts mss stream queued last e).1 in omega arith

-- ---- `pieces`

-- the quotient rounded up, as the rule says it and as std does
rounded-up : (n : ℕ) {m : ℕ} → 0 < m → (n + (m - 1)) / m ≡ n / m + min 1 (n % m)
rounded-up n {m} pos =
    let c = n / m + min 1 (n % m) in
    let h = div_ceil_times n m pos in
    let e : n + (m - 1) ≡ c * m + (n + (m - 1) - c * m) = omega (arith, h.0, h.1) in
    let z : (n + (m - 1) - c * m) / m ≡ 0 = div-eq_of_lt (omega (arith, h.0, h.1)) in
    ap (λ (k : ℕ). k / m) e ∙ mul-add-div_right pos c (n + (m - 1) - c * m) ∙ rw z (add-zero c)

module _ (mss : ℕ) (stream : Bool) where
  pub pieces_none : {n : ℕ} → n ≡ 0 → (stream ≡ true → pieces mss stream n ≡ 0) × (stream ≡ false → pieces mss stream n ≡ 1)
  unfolding pieces
  pieces_none {n} z = (λ e. pick_true _ _ (eq-eqb n 0 z) ∙ pick_true _ _ e, λ e. pick_true _ _ (eq-eqb n 0 z) ∙ pick-false _ _ e)

  module _ (n : ℕ) (pos : 0 < mss) where
    pub pieces-some : 0 < n → n / mss + min 1 (n % mss) ≡ pieces mss stream n
    unfolding pieces
    pieces-some h = sym (pick-false _ _ (ne_eqb n 0 (λ z. omega arith)) ∙ rounded-up n pos)

    -- of no bytes, the quotient rounded up is 0
    pub pieces_zero : n ≡ 0 → stream ≡ true → n / mss + min 1 (n % mss) ≡ pieces mss stream n
    pieces_zero z e =
        let q : n / mss ≡ 0 = div-eq_of_lt (omega arith) in
        let r : n % mss ≡ 0 = mod-eq_of_lt (omega arith) ∙ z in
        let s : n / mss + min 1 (n % mss) ≡ 0 = omega (arith, q, r) in
        s ∙ sym ((pieces_none z).0 e)

-- ---- 8, 12, or neither

module _ (new free : ℕ) where
  pub verdict_big : 128 ≤ new → verdict new free ≡ too_big
  unfolding verdict
  verdict_big h = pick_true _ _ (le-leb 128 new h)

  module _ (few : new < 128) where
    pub verdict-full : free < new → verdict new free ≡ pool_full
    unfolding verdict
    verdict-full h = pick-false _ _ (lt-leb 128 new few) ∙ pick_true _ _ (lt-ltb free new h)

    pub verdict-fits : new ≤ free → verdict new free ≡ fits
    unfolding verdict
    verdict-fits h = pick-false _ _ (lt-leb 128 new few) ∙ pick-false _ _ (le-ltb free new h)
