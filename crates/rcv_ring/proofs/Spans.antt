-- The laws of what is read index by index: `span`, `kept` with `put_by`, `is_there` and `closer`, and `leading`. Assumes nothing.
use Prim.Native.Nat.{ℕ, zero, suc, ◌+◌, ◌-◌, ◌≤◌, ◌<◌}
use native.Mathlib.Omega.{arith}
use native.Mathlib.Nat.{add-zero, zero-add}
use native.Mathlib.Numerals.{add-one}
use native.Mathlib.Decide.{ℕ_discrete, dec_lt}
use mathlib.Core.Path.{◌≡◌, refl, ap, ◌∙◌, sym}
use mathlib.Core.Bool.{false, not}
use mathlib.Core.List.{List, [], ◌∷◌, ◌++◌, map}
use lib.ListN.{length, take, drop}
use lib.Seq.{take_at, drop_at}
use lib.Dec.{eqb}
use borrow.Author.Tests.{lt-ltb, le-ltb, eq-eqb, ne_eqb}
use Rattle.ring.specs.Places.{summed, along}
use Rattle.ring.proofs.Places.{by_less}
use Rattle.rcv_ring.specs.Views.{Content, held, span, kept, put_by, closer, is_there, leading}

-- ---- `span`

module _ {A : Type 0} where
  -- the same elsewhere
  pub span_same : (f g : ℕ → A) (a b n : ℕ) → ((i : ℕ) → i < n → f (a + i) ≡ g (b + i)) → span f a n ≡ span g b n
  unfolding span
  span_same f g a b zero h = refl
  span_same f g a b (suc n) h =
      let e : f a ≡ g b = simp add-zero at (h 0 (omega arith)) in
      let r =
      span_same f g (suc a) (suc b) n
      (λ i l. let p : suc a + i ≡ a + suc i = omega arith in let q : suc b + i ≡ b + suc i = omega arith in ap f p ∙ h (suc i) (omega arith) ∙ sym (ap g q)) in
      rw (e, r)

  pub span_none : (f : ℕ → A) (a : ℕ) → span f a 0 ≡ []
  unfolding span
  span_none f a = refl

  pub span-length : (f : ℕ → A) (a n : ℕ) → length (span f a n) ≡ n
  unfolding span
  span-length f a zero = refl
  span-length f a (suc n) = ap suc (span-length f (suc a) n)

  pub span_add : (f : ℕ → A) (a n p : ℕ) → span f a (n + p) ≡ span f a n ++ span f (a + n) p
  unfolding span
  span_add f a zero p = rw (zero-add, add-zero)
  span_add f a (suc n) p =
      let e : suc n + p ≡ suc (n + p) = omega arith in
      let q : a + suc n ≡ suc a + n = omega arith in
      rw (e, q, span_add f (suc a) n p)

  -- one more
  pub span_last : (f : ℕ → A) (n : ℕ) → span f 0 (n + 1) ≡ span f 0 n ++ f n ∷ []
  unfolding span
  span_last f n = rw zero-add at (span_add f 0 n 1)

  pub span-take : (f : ℕ → A) (a n k : ℕ) → k ≤ n → take k (span f a n) ≡ span f a k
  span-take f a n k h =
      let e : n ≡ k + (n - k) = omega arith in
      ap (λ (x : ℕ). take k (span f a x)) e ∙ rw (span_add f a k (n - k)) (take_at (span f a k) (span f (a + k) (n - k)) k (span-length f a k))

  pub span-drop : (f : ℕ → A) (a n k : ℕ) → k ≤ n → drop k (span f a n) ≡ span f (a + k) (n - k)
  span-drop f a n k h =
      let e : n ≡ k + (n - k) = omega arith in
      ap (λ (x : ℕ). drop k (span f a x)) e ∙ rw (span_add f a k (n - k)) (drop_at (span f a k) (span f (a + k) (n - k)) k (span-length f a k))

pub map-span : {A B : Type 0} (g : A → B) (f : ℕ → A) (a n : ℕ) → map g (span f a n) ≡ span (λ (i : ℕ). g (f i)) a n
unfolding span
map-span g f a zero = refl
map-span g f a (suc n) = ap (λ l. g (f a) ∷ l) (map-span g f (suc a) n)

-- what is seen along the indices, by a sum or a join over the span
pub along-span : (j : List (List ℕ) → List ℕ) → j [] ≡ [] → ((x : List ℕ) (l : List (List ℕ)) → j (x ∷ l) ≡ x ++ j l) → (f : ℕ → List ℕ) (a n : ℕ) → along f a n ≡ j (span f a n)
unfolding along span
along-span j e h f a zero = sym e
along-span j e h f a (suc n) = rw (h (f a) (span f (suc a) n), along-span j e h f (suc a) n)

pub summed-span : (j : List ℕ → ℕ) → j [] ≡ 0 → ((x : ℕ) (l : List ℕ) → j (x ∷ l) ≡ x + j l) → (f : ℕ → ℕ) (a n : ℕ) → summed f a n ≡ j (span f a n)
unfolding summed span
summed-span j e h f a zero = sym e
summed-span j e h f a (suc n) = rw (h (f a) (span f (suc a) n), summed-span j e h f (suc a) n)

-- ---- `kept`

module _ (m : ℕ → ℕ) (s : ℕ → Content) where
  pub skip : (d n : ℕ) → m d ≡ 0 → kept m s d (suc n) ≡ kept m s (suc d) n
  unfolding kept
  skip d n e = rw (eq-eqb (m d) 0 e)

  pub keep : (d n : ℕ) → (m d ≡ 0 → ⊥) → kept m s d (suc n) ≡ held d (s d) ∷ kept m s (suc d) n
  unfolding kept
  keep d n e = rw (ne_eqb (m d) 0 e)

  pub empty : (d : ℕ) → kept m s d 0 ≡ []
  unfolding kept
  empty d = refl

  pub kept_add : (d n p : ℕ) → kept m s d (n + p) ≡ kept m s d n ++ kept m s (d + n) p
  kept_add d zero p = rw (zero-add, add-zero, empty d)
  kept_add d (suc n) p =
      let q : d + suc n ≡ suc d + n = omega arith in
      let e : suc n + p ≡ suc (n + p) = omega arith in
      rw (e, q) (go (kept_add (suc d) n p) (ℕ_discrete (m d) 0))
    where
      go : kept m s (suc d) (n + p) ≡ kept m s (suc d) n ++ kept m s (suc d + n) p → Dec (m d ≡ 0) → kept m s d (suc (n + p)) ≡ kept m s d (suc n) ++ kept m s (suc d + n) p
      go r (yes z) = rw (skip d (n + p) z, skip d n z) r
      go r (no z) = rw (keep d (n + p) z, keep d n z, r)

  -- nothing is held
  pub kept_none : (d n : ℕ) → ((i : ℕ) → i < n → m (d + i) ≡ 0) → kept m s d n ≡ []
  kept_none d zero h = empty d
  kept_none d (suc n) h =
      let e : m d ≡ 0 = rw add-zero at (h 0 (omega arith)) in
      skip d n e ∙ kept_none (suc d) n (λ i l. let p : suc d + i ≡ d + suc i = omega arith in ap m p ∙ h (suc i) (omega arith))

  -- everything is
  pub kept_all : (d n : ℕ) → ((i : ℕ) → i < n → m (d + i) ≡ 0 → ⊥) → kept m s d n ≡ span (λ (j : ℕ). held j (s j)) d n
  unfolding span
  kept_all d zero h = empty d
  kept_all d (suc n) h =
      keep d n (λ z. h 0 (omega arith) (rw add-zero z))
      ∙ ap (λ l. held d (s d) ∷ l) (kept_all (suc d) n (λ i l z. let p : d + suc i ≡ suc d + i = omega arith in h (suc i) (omega arith) (ap m p ∙ z)))

  -- what lies farther than e comes behind it
  pub put_by-first : (e : ℕ) (x : Content) (d n : ℕ) → e < d → put_by (held e x) (kept m s d n) ≡ held e x ∷ kept m s d n
  unfolding put_by
  put_by-first e x d zero h = rw (empty d)
  put_by-first e x d (suc n) h = go (put_by-first e x (suc d) n (omega arith)) (ℕ_discrete (m d) 0)
    where
      go : put_by (held e x) (kept m s (suc d) n) ≡ held e x ∷ kept m s (suc d) n → Dec (m d ≡ 0) → put_by (held e x) (kept m s d (suc n)) ≡ held e x ∷ kept m s d (suc n)
      go r (yes z) = rw (skip d n z) r
      go r (no z) = rw (keep d n z, lt-ltb e d h)

  -- a distance that is not among them
  pub held_out : (e d n : ℕ) → (d ≤ e → e < d + n → ⊥) → is_there e (kept m s d n) ≡ false
  unfolding is_there
  held_out e d zero h = rw (empty d)
  held_out e d (suc n) h = go (held_out e (suc d) n (λ a b. h (omega arith) (omega arith))) (ℕ_discrete (m d) 0)
    where
      go : is_there e (kept m s (suc d) n) ≡ false → Dec (m d ≡ 0) → is_there e (kept m s d (suc n)) ≡ false
      go r (yes z) = rw (skip d n z) r
      go r (no z) = rw (keep d n z, ne_eqb d e (λ q. h (omega arith) (omega arith))) r

  -- one that is, by its mark
  pub held_is : (e d n : ℕ) → d ≤ e → e < d + n → is_there e (kept m s d n) ≡ not (eqb (m e) 0)
  unfolding is_there
  held_is e d zero a b = absurd (omega arith)
  held_is e d (suc n) a b = go (λ l. held_is e (suc d) n l (omega arith)) (ℕ_discrete (m d) 0) (dec_lt d e)
    where
      go : (suc d ≤ e → is_there e (kept m s (suc d) n) ≡ not (eqb (m e) 0)) → Dec (m d ≡ 0) → Dec (d < e) → is_there e (kept m s d (suc n)) ≡ not (eqb (m e) 0)
      go r (yes z) (yes l) = rw (skip d n z) (r l)
      go r (no z) (yes l) = rw (keep d n z, ne_eqb d e (λ q. omega arith)) (r l)
      go r (yes z) (no l) =
          let q : e ≡ d = omega arith in
          rw (skip d n z, held_out e (suc d) n (λ u v. omega arith), eq-eqb (m e) 0 (ap m q ∙ z))
      go r (no z) (no l) =
          let q : d ≡ e = omega arith in
          rw (keep d n z, eq-eqb d e q, ne_eqb (m e) 0 (λ w. z (ap m q ∙ w)))

-- two that agree
module _ (m w : ℕ → ℕ) (s t : ℕ → Content) where
  abbrev pub Same : ℕ → Type 0
  Same i = (m i ≡ w i) × ((m i ≡ 0 → ⊥) → s i ≡ t i)

  pub kept_same : (d n : ℕ) → ((i : ℕ) → d ≤ i → i < d + n → Same i) → kept m s d n ≡ kept w t d n
  kept_same d zero h = empty m s d ∙ sym (empty w t d)
  kept_same d (suc n) h = go (h d (omega arith) (omega arith)) (kept_same (suc d) n (λ i a b. h i (omega arith) (omega arith))) (ℕ_discrete (m d) 0)
    where
      go : Same d → kept m s (suc d) n ≡ kept w t (suc d) n → Dec (m d ≡ 0) → kept m s d (suc n) ≡ kept w t d (suc n)
      go e r (yes z) = rw (skip m s d n z, skip w t d n (sym e.0 ∙ z)) r
      go e r (no z) = rw (keep m s d n z, keep w t d n (λ q. z (e.0 ∙ q)), r, e.1 z)

  -- k farther on
  pub kept-closer : (k d n : ℕ) → ((i : ℕ) → d ≤ i → i < d + n → (m (k + i) ≡ w i) × (s (k + i) ≡ t i)) → closer k (kept m s (k + d) n) ≡ kept w t d n
  kept-closer k d zero h = rw (empty m s (k + d), empty w t d)
  kept-closer k d (suc n) h =
      let q : suc (k + d) ≡ k + suc d = omega arith in
      go q (h d (omega arith) (omega arith)) (kept-closer k (suc d) n (λ i a b. h i (omega arith) (omega arith))) (ℕ_discrete (m (k + d)) 0)
    where
      go : suc (k + d) ≡ k + suc d → (m (k + d) ≡ w d) × (s (k + d) ≡ t d) → closer k (kept m s (k + suc d) n) ≡ kept w t (suc d) n → Dec (m (k + d) ≡ 0)
          → closer k (kept m s (k + d) (suc n)) ≡ kept w t d (suc n)
      go q e r (yes z) = rw (skip m s (k + d) n z, skip w t d n (sym e.0 ∙ z), q) r
      go q e r (no z) =
          let u : k + d - k ≡ d = omega arith in
          rw (keep m s (k + d) n z, keep w t d n (λ y. z (e.0 ∙ y)), q, r, e.1, u)

  -- distance e is not held in the one, and in the other it is
  pub kept-put_by : (e d n : ℕ) → d ≤ e → e < d + n → m e ≡ 0 → (w e ≡ 0 → ⊥) → ((i : ℕ) → d ≤ i → i < d + n → (i ≡ e → ⊥) → Same i)
      → put_by (held e (t e)) (kept m s d n) ≡ kept w t d n
  unfolding put_by
  kept-put_by e d zero a b z o h = absurd (omega arith)
  kept-put_by e d (suc n) a b z o h =
      go (λ l. kept-put_by e (suc d) n l (omega arith) z o (λ i p q. h i (omega arith) (omega arith))) (ℕ_discrete (m d) 0) (dec_lt d e)
    where
      go : (suc d ≤ e → put_by (held e (t e)) (kept m s (suc d) n) ≡ kept w t (suc d) n) → Dec (m d ≡ 0) → Dec (d < e) → put_by (held e (t e)) (kept m s d (suc n)) ≡ kept w t d (suc n)
      go r (yes y) (yes l) =
          let x = h d (omega arith) (omega arith) (λ q. omega arith) in
          rw (skip m s d n y, skip w t d n (sym x.0 ∙ y)) (r l)
      go r (no y) (yes l) =
          let x = h d (omega arith) (omega arith) (λ q. omega arith) in
          rw (keep m s d n y, keep w t d n (λ q. y (x.0 ∙ q)), le-ltb e d (omega arith), r l, x.1 y)
      go r y (no l) =
          let q : e ≡ d = omega arith in
          let f : kept m s (suc d) n ≡ kept w t (suc d) n = kept_same (suc d) n (λ i u v. h i (omega arith) (omega arith) (λ p. omega arith)) in
          rw (skip m s d n (ap m (sym q) ∙ z), keep w t d n (λ p. o (ap w q ∙ p)), put_by-first m s e (t e) (suc d) n (omega arith), q, f)

-- ---- `leading`

module _ (m : ℕ → ℕ) where
  pub leading_more : (i n : ℕ) → i < n → (m i ≡ 0 → ⊥) → leading m i (n - i) ≡ suc (leading m (i + 1) (n - (i + 1)))
  unfolding leading
  leading_more i n h z = let e : n - i ≡ suc (n - (i + 1)) = omega arith in rw (e, add-one, ne_eqb (m i) 0 z)

  pub leading-stops : (i n : ℕ) → i < n → m i ≡ 0 → leading m i (n - i) ≡ 0
  unfolding leading
  leading-stops i n h z = let e : n - i ≡ suc (n - (i + 1)) = omega arith in rw (e, eq-eqb (m i) 0 z)

  pub leading_none : (i n : ℕ) → n ≤ i → leading m i (n - i) ≡ 0
  unfolding leading
  leading_none i n h = let e : n - i ≡ 0 = omega arith in rw e

  -- so many are held
  pub leading-held : (d n j : ℕ) → j < leading m d n → (j < n) × (m (d + j) ≡ 0 → ⊥)
  unfolding leading
  leading-held d zero j h = absurd (omega arith)
  leading-held d (suc n) j h = go h (λ i. leading-held (suc d) n i) (ℕ_discrete (m d) 0)
    where
      go : j < leading m d (suc n) → ((i : ℕ) → i < leading m (suc d) n → (i < n) × (m (suc d + i) ≡ 0 → ⊥)) → Dec (m d ≡ 0) → (j < suc n) × (m (d + j) ≡ 0 → ⊥)
      go l r (yes z) = let a = rw (eq-eqb (m d) 0 z) at l in absurd (omega arith)
      go l r (no z) = let a = rw (ne_eqb (m d) 0 z) at l in step a (ℕ_discrete j 0)
        where
          step : j < suc (leading m (suc d) n) → Dec (j ≡ 0) → (j < suc n) × (m (d + j) ≡ 0 → ⊥)
          step b (yes y) = (omega arith, λ q. z (let u : d ≡ d + j = omega arith in ap m u ∙ q))
          step b (no y) =
              let p = r (j - 1) (omega arith) in
              (omega arith, λ q. p.1 (let u : suc d + (j - 1) ≡ d + j = omega arith in ap m u ∙ q))

  pub leading_le : (d n : ℕ) → leading m d n ≤ n
  leading_le d n = by_less n (leading m d n) (λ h. absurd (let a = leading-held d n n h in omega arith)) (λ h. h)

pub ruleset of_leading = (leading_more, leading-stops, leading_none)
