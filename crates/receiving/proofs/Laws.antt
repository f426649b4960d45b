-- Laws of the receive side's rules: what a move and a store do to the held segments' order and places. Assumes nothing.
use Prim.Native.Nat.{ℕ, suc, zero, ◌+◌, ◌^◌, ◌%◌, ◌<◌, ◌≤◌}
use native.Mathlib.Omega.{arith}
use native.Mathlib.Nat.{not-suc-le-zero, le_of_suc-le-suc}
use mathlib.Core.Path.{◌≡◌, refl, sym, ap, subst}
use mathlib.Core.Bool.{Bool, true, false, cond, ◌&&◌, ◌||◌}
use mathlib.Core.Option.{Option, none, some}
use mathlib.Core.List.{List, [], ◌∷◌, ◌++◌}
use lib.ListN.{length, take, drop, get_or}
use lib.Dec.{ltb, eqb}
use borrow.Author.Tests.{ltb-true, ltb-false, eqb-true, eqb-false, eq-eqb, ne_eqb}
use Rattle.serial.specs.Wrap.{add32}
use Rattle.serial.specs.Window.{distance}
use Rattle.ring.specs.Sequences.{inserted}
use Rattle.receiving.specs.Rules.{Segment, numbers, nearer, ready, insert, is_held, Ordered}
use Rattle.receiving.specs.History.{Taken, placed, first}

pub and_left : (a b : Bool) → (a && b) ≡ true → a ≡ true
and_left true b e = refl
and_left false b e = e

pub and_right : (a b : Bool) → (a && b) ≡ true → b ≡ true
and_right true b e = e
and_right false b e = cc

pub or_left : (a b : Bool) → (a || b) ≡ false → a ≡ false
or_left true b e = e
or_left false b e = refl

pub or_right : (a b : Bool) → (a || b) ≡ false → b ≡ false
or_right true b e = cc
or_right false b e = e

-- ---- distances

pub distance_self : (n : ℕ) → n < 2 ^ 32 → distance n n ≡ 0
unfolding distance
distance_self n h = omega arith

pub distance-step : (n s : ℕ) → n < 2 ^ 32 → 0 < distance n s → distance (add32 n 1) s + 1 ≡ distance n s
unfolding distance
distance-step n s h d = omega arith

pub distance_inj : (n a b : ℕ) → n < 2 ^ 32 → a < 2 ^ 32 → b < 2 ^ 32 → distance n a ≡ distance n b → a ≡ b
unfolding distance
distance_inj n a b h i j e = omega arith

-- ---- numbers and places in a row

-- the numbers of l are k, k + 1 and so on
abbrev pub Numbered : ℕ → List Segment → Type 0
Numbered k [] = Unit {0}
Numbered k (s ∷ l) = (s.sn ≡ k % 2 ^ 32) × Numbered (suc k) l

-- l in the places from k on
unfoldable pub standing : ℕ → List Segment → List Taken
standing k [] = []
standing k (s ∷ l) = record { place = k; segment = s } ∷ standing (suc k) l

pub numbered_append : (k : ℕ) (a b : List Segment) → Numbered k a → Numbered (k + length a) b → Numbered k (a ++ b)
numbered_append k [] b n m = subst (λ (i : ℕ). Numbered i b) (omega arith) m
numbered_append k (x ∷ a) b n m = (n.0, numbered_append (suc k) a b n.1 (subst (λ (i : ℕ). Numbered i b) (omega arith) m))

pub standing_append : (k : ℕ) (a b : List Segment) → standing k (a ++ b) ≡ standing k a ++ standing (k + length a) b
unfolding standing
standing_append k [] b = ap (λ (i : ℕ). standing i b) (omega arith)
standing_append k (x ∷ a) b =
    let e : suc k + length a ≡ k + suc (length a) = omega arith in rw (standing_append (suc k) a b, e)

pub numbered_at : (m : ℕ) (l : List Segment) (z : Segment) → Numbered m l → (k : ℕ) → k < length l → (get_or l k z).sn ≡ (m + k) % 2 ^ 32
numbered_at m [] z n k h = absurd (not-suc-le-zero h)
numbered_at m (s ∷ l) z n zero h = let e = n.0 in omega arith
numbered_at m (s ∷ l) z n (suc k) h = let e = numbered_at (suc m) l z n.1 k (le_of_suc-le-suc h) in omega arith

pub standing_at : (m : ℕ) (l : List Segment) (z : Segment) (k : ℕ) → k < length l → first (m + k) (standing m l) ≡ some (get_or l k z)
unfolding first standing
standing_at m [] z k h = absurd (not-suc-le-zero h)
standing_at m (s ∷ l) z zero h = rw (eq-eqb m (m + zero) (omega arith))
standing_at m (s ∷ l) z (suc k) h =
    let e : m + suc k ≡ suc m + k = omega arith in
    let at : ℕ → Type 0 = λ i. first i (standing (suc m) l) ≡ some (get_or l k z) in
    rw (ne_eqb m (m + suc k) (λ q. omega arith)) (subst at (sym e) (standing_at (suc m) l z k (le_of_suc-le-suc h)))

-- ---- the order of the held segments, by index

module _ (next hi : ℕ) where
  pub ordered-low : (lo : ℕ) (l : List ℕ) (z : ℕ) → Ordered next lo hi l → (j : ℕ) → j < length l → lo ≤ distance next (get_or l j z)
  ordered-low lo [] z o j h = absurd (not-suc-le-zero h)
  ordered-low lo (n ∷ l) z o zero h = o.0
  ordered-low lo (n ∷ l) z o (suc j) h = let a = ordered-low (suc (distance next n)) l z o.2 j (le_of_suc-le-suc h) in omega arith

  pub ordered-length : (lo : ℕ) (l : List ℕ) → Ordered next lo hi l → lo + length l ≤ hi
  ordered-length lo [] o = omega arith
  ordered-length lo (n ∷ l) o = let a = ordered-length (suc (distance next n)) l o.2 in omega arith

  pub ordered-high : (lo : ℕ) (l : List ℕ) (z : ℕ) → Ordered next lo hi l → (j : ℕ) → j < length l → distance next (get_or l j z) < hi
  ordered-high lo [] z o j h = absurd (not-suc-le-zero h)
  ordered-high lo (n ∷ l) z o zero h = let a = ordered-length (suc (distance next n)) l o.2 in omega arith
  ordered-high lo (n ∷ l) z o (suc j) h = ordered-high (suc (distance next n)) l z o.2 j (le_of_suc-le-suc h)

  pub ordered-rising : (lo : ℕ) (l : List ℕ) (z : ℕ) → Ordered next lo hi l → (i j : ℕ) → i < j → j < length l → distance next (get_or l i z) < distance next (get_or l j z)
  ordered-rising lo [] z o i j h k = absurd (not-suc-le-zero k)
  ordered-rising lo (n ∷ l) z o i zero h k = absurd (not-suc-le-zero h)
  ordered-rising lo (n ∷ l) z o zero (suc j) h k = ordered-low (suc (distance next n)) l z o.2 j (le_of_suc-le-suc k)
  ordered-rising lo (n ∷ l) z o (suc i) (suc j) h k = ordered-rising (suc (distance next n)) l z o.2 i j (le_of_suc-le-suc h) (le_of_suc-le-suc k)

  pub ordered_wider : (lo hi' : ℕ) (l : List ℕ) → hi ≤ hi' → Ordered next lo hi l → Ordered next lo hi' l
  ordered_wider lo hi' [] h o = omega arith
  ordered_wider lo hi' (n ∷ l) h o = (o.0, o.1, ordered_wider (suc (distance next n)) hi' l h o.2)

-- ---- held segments move: what is awaited goes on, and every segment keeps its place

module _ (n hi : ℕ) (under : n < 2 ^ 32) where
  pub ordered_step : (lo : ℕ) (l : List ℕ) → Ordered n (suc lo) hi l → Ordered (add32 n 1) lo hi l
  ordered_step lo [] o = omega arith
  ordered_step lo (m ∷ l) o =
      let e = distance-step n m under (omega arith) in
      let f : distance n m ≡ suc (distance (add32 n 1) m) = omega arith in
      (omega arith, o.1, ordered_step (suc (distance (add32 n 1) m)) l (subst (λ (d : ℕ). Ordered n (suc d) hi l) f o.2))

  pub placed-step : (p lo : ℕ) (l : List Segment) → Ordered n (suc lo) hi (numbers l) → placed (suc p) (add32 n 1) l ≡ placed p n l
  unfolding placed
  placed-step p lo [] o = refl
  placed-step p lo (s ∷ l) o =
      let e = distance-step n s.sn under (omega arith) in
      let q : suc p + distance (add32 n 1) s.sn ≡ p + distance n s.sn = omega arith in
      rw (q, placed-step p (distance n s.sn) l o.2)

-- of the held segments, the first n move
pub record Moves (hi p next room : ℕ) (held : List Segment) (n : ℕ) : Type 0 where
  pub within : n ≤ room
  pub enough : n ≤ length held
  pub ordered : Ordered (add32 next n) 0 hi (numbers (drop n held))
  pub numbered : Numbered p (take n held)
  pub places : placed p next held ≡ standing p (take n held) ++ placed (p + n) (add32 next n) (drop n held)

module _ (hi : ℕ) where
  moves_none : (p next room : ℕ) (held : List Segment) → next < 2 ^ 32 → Ordered next 0 hi (numbers held) → Moves hi p next room held 0
  unfolding standing
  moves_none p next room held u o =
      let e : (next + 0) % 2 ^ 32 ≡ next = omega arith in
      let f : p + 0 ≡ p = omega arith in
      record { within = omega arith; enough = omega arith; ordered = rw e o; numbered = tt; places = rw (e, f) }

  module _ (p next room : ℕ) (s : Segment) (held : List Segment) (awaited : next ≡ p % 2 ^ 32) (o : Ordered next 0 hi (numbers (s ∷ held))) (front : s.sn ≡ next) where
    here : distance next s.sn ≡ 0
    here = rw front (distance_self next (omega arith))

    rest : Ordered next 1 hi (numbers held)
    rest = subst (λ (d : ℕ). Ordered next (suc d) hi (numbers held)) here o.2

    moves_more : (n : ℕ) → Moves hi (suc p) (add32 next 1) room held n → Moves hi p next (suc room) (s ∷ held) (suc n)
    unfolding standing placed
    moves_more n m =
        let e : ((next + 1) % 2 ^ 32 + n) % 2 ^ 32 ≡ (next + suc n) % 2 ^ 32 = omega arith in
        let f : suc p + n ≡ p + suc n = omega arith in
        let z : p + 0 ≡ p = omega arith in
        record {
          within = let a = m.within in omega arith;
          enough = let a = m.enough in omega arith;
          ordered = rw e at m.ordered;
          numbered = (omega arith, m.numbered);
          places = rw (here, z, ← placed-step next hi (omega arith) p 0 held rest, m.places, e, f);
        }

  pub moves-ready : (p next room : ℕ) (held : List Segment) → next ≡ p % 2 ^ 32 → Ordered next 0 hi (numbers held) → Moves hi p next room held (ready next room (numbers held))
  unfolding ready
  moves-ready p next zero held a o = moves_none p next zero held (omega arith) o
  moves-ready p next (suc room) [] a o = moves_none p next (suc room) [] (omega arith) o
  moves-ready p next (suc room) (s ∷ held) a o = go (eqb s.sn next) refl (moves-ready (suc p) (add32 next 1) room held (omega arith))
    where
      go : (b : Bool) → eqb s.sn next ≡ b
          → (Ordered (add32 next 1) 0 hi (numbers held) → Moves hi (suc p) (add32 next 1) room held (ready (add32 next 1) room (numbers held)))
          → Moves hi p next (suc room) (s ∷ held) (cond b (suc (ready (add32 next 1) room (numbers held))) 0)
      go true e ih =
          let f = eqb-true s.sn next e in
          moves_more p next room s held a o f (ready (add32 next 1) room (numbers held)) (ih (ordered_step next hi (omega arith) 0 (numbers held) (rest p next room s held a o f)))
      go false e ih = moves_none p next (suc room) (s ∷ held) (omega arith) o

-- ---- the first of a place

abbrev pub or_else : Option Segment → Option Segment → Option Segment
or_else none o = o
or_else (some s) o = some s

pub or_else_assoc : (a b c : Option Segment) → or_else (or_else a b) c ≡ or_else a (or_else b c)
or_else_assoc none b c = refl
or_else_assoc (some s) b c = refl

or_else_none : (a : Option Segment) → or_else a none ≡ a
or_else_none none = refl
or_else_none (some s) = refl

pub first_append : (k : ℕ) (a b : List Taken) → first k (a ++ b) ≡ or_else (first k a) (first k b)
unfolding first
first_append k [] b = refl
first_append k (t ∷ a) b = go (eqb t.place k) (first_append k a b)
  where
    go : (c : Bool) → first k (a ++ b) ≡ or_else (first k a) (first k b)
        → cond c (some t.segment) (first k (a ++ b)) ≡ or_else (cond c (some t.segment) (first k a)) (first k b)
    go true h = refl
    go false h = h

-- a place that nothing else has may as well be looked at last
before-first : (s : Segment) (k m : ℕ) (l : List Taken) → first m l ≡ none → cond (eqb m k) (some s) (first k l) ≡ or_else (first k l) (cond (eqb m k) (some s) none)
before-first s k m l h = go (eqb m k) refl
  where
    go : (b : Bool) → eqb m k ≡ b → cond b (some s) (first k l) ≡ or_else (first k l) (cond b (some s) none)
    go true e = rw (← eqb-true m k e, h)
    go false e = sym (or_else_none (first k l))

-- ---- a segment that is not held is stored

module _ (next : ℕ) (s : Segment) where
  pub insert-length : (held : List Segment) → length (insert next s held) ≡ suc (length held)
  unfolding insert inserted nearer
  insert-length [] = refl
  insert-length (h ∷ held) = go (ltb (distance next s.sn) (distance next h.sn)) (insert-length held)
    where
      go : (b : Bool) → length (insert next s held) ≡ suc (length held) → length (inserted (h ∷ held) (cond b 0 (suc (nearer next (distance next s.sn) (numbers held)))) s) ≡ suc (suc (length held))
      go true e = refl
      go false e = ap suc e

  module _ (under : next < 2 ^ 32) (small : s.sn < 2 ^ 32) (hi : ℕ) where
    apart : (h : Segment) (held : List Segment) → h.sn < 2 ^ 32 → is_held s.sn (numbers (h ∷ held)) ≡ false → distance next h.sn ≡ distance next s.sn → ⊥
    unfolding is_held
    apart h held i e q = eqb-false h.sn s.sn (or_left (eqb h.sn s.sn) (is_held s.sn (numbers held)) e) (distance_inj next h.sn s.sn under i small q)

    later : (h : Segment) (held : List Segment) → is_held s.sn (numbers (h ∷ held)) ≡ false → is_held s.sn (numbers held) ≡ false
    unfolding is_held
    later h held e = or_right (eqb h.sn s.sn) (is_held s.sn (numbers held)) e

    pub insert-ordered : (lo : ℕ) (held : List Segment) → Ordered next lo hi (numbers held) → lo ≤ distance next s.sn → distance next s.sn < hi → is_held s.sn (numbers held) ≡ false
        → Ordered next lo hi (numbers (insert next s held))
    unfolding insert inserted nearer
    insert-ordered lo [] o l u e = (l, small, u)
    insert-ordered lo (h ∷ held) o l u e = go (ltb (distance next s.sn) (distance next h.sn)) refl
        (λ x. insert-ordered (suc (distance next h.sn)) held o.2 x u (later h held e))
      where
        go : (b : Bool) → ltb (distance next s.sn) (distance next h.sn) ≡ b
            → (distance next h.sn < distance next s.sn → Ordered next (suc (distance next h.sn)) hi (numbers (insert next s held)))
            → Ordered next lo hi (numbers (inserted (h ∷ held) (cond b 0 (suc (nearer next (distance next s.sn) (numbers held)))) s))
        go true t ih = (l, small, (ltb-true (distance next s.sn) (distance next h.sn) t, o.1, o.2))
        go false t ih =
            let ne = apart h held o.1 e in
            let ge = ltb-false (distance next s.sn) (distance next h.sn) t in
            (o.0, o.1, ih (omega arith))

    module _ (p : ℕ) where
      absent : (lo : ℕ) (held : List Segment) → Ordered next lo hi (numbers held) → is_held s.sn (numbers held) ≡ false → first (p + distance next s.sn) (placed p next held) ≡ none
      unfolding first placed
      absent lo [] o e = refl
      absent lo (h ∷ held) o e =
          let ne = apart h held o.1 e in
          rw (ne_eqb (p + distance next h.sn) (p + distance next s.sn) (λ q. ne (omega arith))) (absent (suc (distance next h.sn)) held o.2 (later h held e))

      -- as far as the first of each place goes, it joins behind
      pub insert-first : (k lo : ℕ) (held : List Segment) → Ordered next lo hi (numbers held) → is_held s.sn (numbers held) ≡ false
          → first k (placed p next (insert next s held)) ≡ or_else (first k (placed p next held)) (first k (placed p next (s ∷ [])))
      unfolding insert inserted nearer first placed
      insert-first k lo [] o e = refl
      insert-first k lo (h ∷ held) o e =
          go (ltb (distance next s.sn) (distance next h.sn)) (insert-first k (suc (distance next h.sn)) held o.2 (later h held e))
        where
          same : (b : Bool) → first k (placed p next (insert next s held)) ≡ or_else (first k (placed p next held)) (first k (placed p next (s ∷ [])))
              → cond b (some h) (first k (placed p next (insert next s held))) ≡ or_else (cond b (some h) (first k (placed p next held))) (first k (placed p next (s ∷ [])))
          same true ih = refl
          same false ih = ih

          go : (b : Bool) → first k (placed p next (insert next s held)) ≡ or_else (first k (placed p next held)) (first k (placed p next (s ∷ [])))
              → first k (placed p next (inserted (h ∷ held) (cond b 0 (suc (nearer next (distance next s.sn) (numbers held)))) s)) ≡ or_else (first k (placed p next (h ∷ held))) (first k (placed p next (s ∷ [])))
          go true ih = before-first s k (p + distance next s.sn) (placed p next (h ∷ held)) (absent lo (h ∷ held) o e)
          go false ih = same (eqb (p + distance next h.sn) k) ih
