-- The laws of a packing by numbers: one piece by the tests that the code makes, and a loop over pieces of any sizes, said from where it stands.
-- Assumes nothing.
use Prim.Native.Nat.{ℕ, zero, suc, ◌+◌, ◌*◌, ◌≤◌}
use native.Mathlib.Nat.{add_assoc, add-zero, mul-suc}
use native.Mathlib.Omega.{arith}
use mathlib.Core.Path.{◌≡◌, refl, sym, ap, ◌∙◌}
use mathlib.Core.Bool.{Bool, true, false}
use mathlib.Core.List.{List, [], ◌∷◌, ◌++◌, map, map-append, append_assoc, append-nil}
use lib.ListN.{length, length-append}
use lib.Dec.{ltb}
use borrow.Author.Tests.{lt-ltb}
use Rattle.serial.specs.Branch.{pick}
use Rattle.ring.specs.Records.{put}
use Rattle.ring.proofs.Rows.{put-put}
use Rattle.flushing.specs.Pack.{flat, sum_of, datagram_size, goes_size, stays_size, pack_sizes, pack_all_sizes}
use Rattle.flushing.proofs.Packing.{AtMost, flat_append, length-flat, sum_append, sizes-sum, all-sum, rest-most}
use Rattle.packing.specs.declared.packer.Packer.{Packer}
use Rattle.packing.specs.Packer.{departs, sized, closed}
use Rattle.packing.proofs.Laying.{Laying, laying-start, laying-fits, laying_on, laying-end}

-- ---- one piece

-- what goes out, and what waits then, by whether a datagram does
goes_by : (mtu n k : ℕ) → goes_size mtu n k ≡ pick (departs mtu n k) (n ∷ []) []
unfolding goes_size departs datagram_size pick
goes_by mtu zero k = of (ltb mtu (zero + k))
  where
    of : (t : Bool) → pick {A = List ℕ} t [] [] ≡ []
    of true = refl
    of false = refl
goes_by mtu (suc n) k = rw (lt-ltb 0 (suc n) (omega arith))

stays_by : (mtu n k : ℕ) → stays_size mtu n k ≡ pick (departs mtu n k) k (n + k)
unfolding stays_size departs pick
stays_by mtu zero k = of (ltb mtu (zero + k))
  where
    of : (t : Bool) → pick t k (zero + k) ≡ zero + k
    of true = omega arith
    of false = refl
stays_by mtu (suc n) k = rw (lt-ltb 0 (suc n) (omega arith))

-- what the packer becomes, and what is put into the lengths
module _ (mtu : ℕ) (p : Packer) (k : ℕ) where
  pub turn-leaves : (t : Bool) → t ≡ departs mtu p.used k → t ≡ true
      → (◌≡◌ {A = Packer} (record { start = p.start + p.used; used = k; count = p.count + 1 }) (sized mtu p (k ∷ []))) × (goes_size mtu p.used k ≡ p.used ∷ [])
  unfolding sized pack_sizes sum_of pick
  turn-leaves t e h =
      let d : departs mtu p.used k ≡ true = sym e ∙ h in
      let g : goes_size mtu p.used k ≡ p.used ∷ [] = rw (goes_by mtu p.used k, d) in
      (sym (simp (g, stays_by mtu p.used k, d, add-zero)), g)

  pub turn-joins : (t : Bool) → t ≡ departs mtu p.used k → t ≡ false
      → (◌≡◌ {A = Packer} (record { start = p.start; used = p.used + k; count = p.count }) (sized mtu p (k ∷ []))) × (goes_size mtu p.used k ≡ [])
  unfolding sized pack_sizes sum_of pick
  turn-joins t e h =
      let d : departs mtu p.used k ≡ false = sym e ∙ h in
      let g : goes_size mtu p.used k ≡ [] = rw (goes_by mtu p.used k, d) in
      (sym (simp (g, stays_by mtu p.used k, d, add-zero)), g)

-- ---- the last bytes

-- two packers with the same numbers
same : (s u n s' u' n' : ℕ) → s ≡ s' → u ≡ u' → n ≡ n' → ◌≡◌ {A = Packer} (record { start = s; used = u; count = n }) (record { start = s'; used = u'; count = n' })
same s u n s' u' n' a b c = cc

one_written : (n : ℕ) → (n ≡ 0 → ⊥) → datagram_size n ≡ n ∷ []
unfolding datagram_size
one_written zero e = absurd (e refl)
one_written (suc n) e = refl

module _ (p : Packer) where
  pub closed_none : p.used ≡ 0 → (p ≡ closed p) × (datagram_size p.used ≡ [])
  unfolding closed datagram_size
  closed_none h =
      let a : p.start ≡ p.start + p.used = omega arith in
      let b : p.count ≡ p.count + length (datagram_size p.used) = rw (h, add-zero) in
      (same _ _ _ _ _ _ a h b, rw h)

  pub closed_one : (p.used ≡ 0 → ⊥)
      → (◌≡◌ {A = Packer} (record { start = p.start + p.used; used = 0; count = p.count + 1 }) (closed p)) × (datagram_size p.used ≡ p.used ∷ [])
  unfolding closed
  closed_one h = let e = one_written p.used h in (rw e, e)

-- ---- pieces one after the other

module _ (mtu : ℕ) where
  -- the cuts of pieces that come in two parts
  cuts_append : (n : ℕ) (ks js : List ℕ) → (pack_sizes mtu n (ks ++ js)).0 ≡ (pack_sizes mtu n ks).0 ++ (pack_sizes mtu (pack_sizes mtu n ks).1 js).0
  unfolding pack_sizes
  cuts_append n [] js = refl
  cuts_append n (k ∷ ks) js =
      ap (λ (l : List ℕ). goes_size mtu n k ++ l) (cuts_append (stays_size mtu n k) ks js) ∙ sym (append_assoc (goes_size mtu n k) _ _)

  rest_append : (n : ℕ) (ks js : List ℕ) → (pack_sizes mtu n (ks ++ js)).1 ≡ (pack_sizes mtu (pack_sizes mtu n ks).1 js).1
  unfolding pack_sizes
  rest_append n [] js = refl
  rest_append n (k ∷ ks) js = rest_append (stays_size mtu n k) ks js

  -- the same where nothing is left to wait
  pub all_append : (n : ℕ) (ks js : List ℕ) → pack_all_sizes mtu n (ks ++ js) ≡ (pack_sizes mtu n ks).0 ++ pack_all_sizes mtu (pack_sizes mtu n ks).1 js
  unfolding pack_all_sizes
  all_append n ks js = rw (cuts_append n ks js, rest_append n ks js, append_assoc)

  -- one piece
  pub cuts_one : (n k : ℕ) → (pack_sizes mtu n (k ∷ [])).0 ≡ goes_size mtu n k
  unfolding pack_sizes
  cuts_one n k = append-nil (goes_size mtu n k)

  module _ (p : Packer) where
    pub sized_none : sized mtu p [] ≡ p
    unfolding sized pack_sizes sum_of
    sized_none = simp add-zero

    pub sized_append : (ks js : List ℕ) → sized mtu (sized mtu p ks) js ≡ sized mtu p (ks ++ js)
    unfolding sized
    sized_append ks js = simp (cuts_append p.used ks js, rest_append p.used ks js, sum_append, length-append, add_assoc)

    -- its numbers
    pub sized-sum : (ks : List ℕ) → (sized mtu p ks).start + (sized mtu p ks).used ≡ p.start + p.used + sum_of ks
    unfolding sized
    sized-sum ks = omega (arith, sizes-sum mtu p.used ks)

    pub sized-count : (ks : List ℕ) → (sized mtu p ks).count ≡ p.count + length (pack_sizes mtu p.used ks).0
    unfolding sized
    sized-count ks = refl

    pub sized-used : (ks : List ℕ) → (sized mtu p ks).used ≡ (pack_sizes mtu p.used ks).1
    unfolding sized
    sized-used ks = refl

    -- and once what waits then has gone out
    pub closed-start : (ks : List ℕ) → (closed (sized mtu p ks)).start ≡ p.start + sum_of (pack_all_sizes mtu p.used ks)
    unfolding closed
    closed-start ks = omega (arith, sized-sum ks, all-sum mtu p.used ks)

    pub closed-count : (ks : List ℕ) → (closed (sized mtu p ks)).count ≡ p.count + length (pack_all_sizes mtu p.used ks)
    unfolding closed pack_all_sizes
    closed-count ks = rw (sized-count ks, sized-used ks, length-append, add_assoc)

    -- the lengths of the pieces, and then that of what waits
    pub put_all : (l : List ℕ) (ks : List ℕ) → p.count + length (pack_sizes mtu p.used ks).0 ≤ length l
        → put (put l p.count (pack_sizes mtu p.used ks).0) (sized mtu p ks).count (datagram_size (sized mtu p ks).used) ≡ put l p.count (pack_all_sizes mtu p.used ks)
    unfolding pack_all_sizes
    put_all l ks h = rw (sized-count ks, sized-used ks) (put-put l p.count (pack_sizes mtu p.used ks).0 _ h)

-- a piece sends off at most one datagram
few-written : (n : ℕ) → length (datagram_size n) ≤ 1
unfolding datagram_size
few-written zero = omega arith
few-written (suc n) = omega arith

step-few : (mtu n k : ℕ) → length (goes_size mtu n k) ≤ 1
unfolding goes_size pick
step-few mtu n k = of (ltb mtu (n + k))
  where
    of : (t : Bool) → length (pick t (datagram_size n) []) ≤ 1
    of true = few-written n
    of false = omega arith

pub cuts-few : (mtu n : ℕ) (ks : List ℕ) → length (pack_sizes mtu n ks).0 ≤ length ks
unfolding pack_sizes
cuts-few mtu n [] = omega arith
cuts-few mtu n (k ∷ ks) =
    omega (arith, step-few mtu n k, cuts-few mtu (stays_size mtu n k) ks, length-append (goes_size mtu n k) (pack_sizes mtu (stays_size mtu n k) ks).0)

-- ---- a loop by sizes alone: ks are still to come, and then the packer is r

at-most-rest : (b : ℕ) (ks js : List ℕ) → AtMost b (ks ++ js) → AtMost b ks × AtMost b js
at-most-rest b [] js h = (tt, h)
at-most-rest b (k ∷ ks) js h = let i = at-most-rest b ks js h.1 in ((h.0, i.0), i.1)

-- the bytes of pieces of at most b bytes each
pub total-most : (b : ℕ) (ks : List ℕ) → AtMost b ks → sum_of ks ≤ b * length ks
unfolding sum_of
total-most b [] h = omega arith
total-most b (k ∷ ks) h = rw (mul-suc b (length ks)) (omega (arith, h.0, total-most b ks h.1))

pub record Going (mtu : ℕ) (p : Packer) (ks : List ℕ) (r : Packer) : Type 0 where
  pub same : sized mtu p ks ≡ r
  pub small : p.used ≤ 1500
  pub each : AtMost 1500 ks

pub going_start : (mtu : ℕ) (p : Packer) (ks : List ℕ) → p.used ≤ 1500 → AtMost 1500 ks → Going mtu p ks (sized mtu p ks)
going_start mtu p ks h a = record { same = refl; small = h; each = a }

module _ {mtu : ℕ} {p r : Packer} where
  -- the bytes still to come
  pub going-sum : {ks : List ℕ} → Going mtu p ks r → p.start + p.used + sum_of ks ≡ r.start + r.used
  going-sum {ks} g = sym (sized-sum mtu p ks) ∙ ap (λ (q : Packer). q.start + q.used) g.same

  -- the datagrams still to come: as many as there are cuts, and at most one for each piece
  pub going-cuts : {ks : List ℕ} → Going mtu p ks r → p.count + length (pack_sizes mtu p.used ks).0 ≡ r.count
  going-cuts {ks} g = sym (sized-count mtu p ks) ∙ ap (λ (q : Packer). q.count) g.same

  pub going-count : {ks : List ℕ} → Going mtu p ks r → (p.count ≤ r.count) × (r.count ≤ p.count + length ks)
  going-count {ks} g = (omega (arith, going-cuts g), omega (arith, going-cuts g, cuts-few mtu p.used ks))

  -- the next of them, by the packer p₀ that all came from
  pub going-within : {k : ℕ} {ks : List ℕ} (p₀ : Packer) (js : List ℕ) → Going mtu p (k ∷ ks) r → r ≡ sized mtu p₀ js
      → (p.start + p.used + k ≤ p₀.start + p₀.used + sum_of js) × (p.count ≤ p₀.count + length js)
  unfolding sum_of
  going-within p₀ js g e =
      let s = ap (λ (q : Packer). q.start + q.used) e ∙ sized-sum mtu p₀ js in
      let c = ap (λ (q : Packer). q.count) e ∙ sized-count mtu p₀ js in
      (omega (arith, going-sum g), omega (arith, (going-count g).0, cuts-few mtu p₀.used js))

  -- no more than 1,500 bytes wait at the end
  pub going-small : {ks : List ℕ} → Going mtu p ks r → mtu ≤ 1500 → r.used ≤ 1500
  going-small {ks} g m =
      let e = sym (sized-used mtu p ks) ∙ ap (λ (q : Packer). q.used) g.same in
      omega (arith, rest-most mtu 1500 m p.used ks g.small g.each)

  -- once the pieces ks have been taken
  pub going_stage : (ks js : List ℕ) (q : Packer) → Going mtu p (ks ++ js) r → mtu ≤ 1500 → q ≡ sized mtu p ks → Going mtu q js r
  going_stage ks js q g m e =
      let a = at-most-rest 1500 ks js g.each in
      let u : q.used ≡ (pack_sizes mtu p.used ks).1 = ap (λ (x : Packer). x.used) e ∙ sized-used mtu p ks in
      record {
        same = rw e (sized_append mtu p ks js) ∙ g.same;
        small = rw u (rest-most mtu 1500 m p.used ks g.small a.0);
        each = a.1;
      }

  pub going_on : {k : ℕ} {ks : List ℕ} (q : Packer) → Going mtu p (k ∷ ks) r → mtu ≤ 1500 → q ≡ sized mtu p (k ∷ []) → Going mtu q ks r
  going_on {k} {ks} q g m e = going_stage (k ∷ []) ks q g m e

  pub going_end : Going mtu p [] r → p ≡ r
  going_end g = sym (sized_none mtu p) ∙ g.same

-- ---- a loop that puts lengths: then the list of lengths is m

pub record Cutting (mtu : ℕ) (p : Packer) (l ks : List ℕ) (r : Packer) (m : List ℕ) : Type 0 where
  pub going : Going mtu p ks r
  pub cuts : Laying l p.count (pack_sizes mtu p.used ks).0 m

pub cutting-start : (mtu : ℕ) (p : Packer) (l ks : List ℕ) → p.used ≤ 1500 → AtMost 1500 ks → p.count + length (pack_sizes mtu p.used ks).0 ≤ length l
    → Cutting mtu p l ks (sized mtu p ks) (put l p.count (pack_sizes mtu p.used ks).0)
cutting-start mtu p l ks h a f = record { going = going_start mtu p ks h a; cuts = laying-start l p.count (pack_sizes mtu p.used ks).0 f }

module _ {mtu : ℕ} {p : Packer} {l : List ℕ} {r : Packer} {m : List ℕ} where
  -- what the next piece asks of the list
  pub cutting-fits : {k : ℕ} {ks : List ℕ} → Cutting mtu p l (k ∷ ks) r m → p.count + length (goes_size mtu p.used k) ≤ length l
  unfolding pack_sizes
  cutting-fits {k} {ks} g = laying-fits (goes_size mtu p.used k) (pack_sizes mtu (stays_size mtu p.used k) ks).0 g.cuts

  -- and what several ask
  pub cutting_stage-fits : (ks js : List ℕ) → Cutting mtu p l (ks ++ js) r m → p.count + length (pack_sizes mtu p.used ks).0 ≤ length l
  cutting_stage-fits ks js g = laying-fits (pack_sizes mtu p.used ks).0 _ (rw (cuts_append mtu p.used ks js) at g.cuts)

  pub cutting_stage : (ks js : List ℕ) (q : Packer) (n : List ℕ) → Cutting mtu p l (ks ++ js) r m → mtu ≤ 1500 → q ≡ sized mtu p ks
      → n ≡ put l p.count (pack_sizes mtu p.used ks).0 → Cutting mtu q n js r m
  cutting_stage ks js q n g a e f =
      let u = ap (λ (x : Packer). x.used) e ∙ sized-used mtu p ks in
      let c = ap (λ (x : Packer). x.count) e ∙ sized-count mtu p ks in
      record {
        going = going_stage ks js q g.going a e;
        cuts = laying_on (pack_sizes mtu p.used ks).0 (pack_sizes mtu q.used js).0 n q.count (rw (cuts_append mtu p.used ks js, ← u) at g.cuts) f c;
      }

  pub cutting_on : {k : ℕ} {ks : List ℕ} (q : Packer) (n : List ℕ) → Cutting mtu p l (k ∷ ks) r m → mtu ≤ 1500 → q ≡ sized mtu p (k ∷ [])
      → n ≡ put l p.count (goes_size mtu p.used k) → Cutting mtu q n ks r m
  cutting_on {k} {ks} q n g a e f = cutting_stage (k ∷ []) ks q n g a e (rw (cuts_one mtu p.used k) f)

  pub cutting-end : Cutting mtu p l [] r m → (p ≡ r) × (l ≡ m)
  unfolding pack_sizes
  cutting-end g = (going_end g.going, laying-end g.cuts)

-- ---- a loop that puts bytes and lengths: the pieces ps are still to come, and then the bytes are o

pub record Packing (mtu : ℕ) (p : Packer) (out l : List ℕ) (ps : List (List ℕ)) (r : Packer) (o m : List ℕ) : Type 0 where
  pub cutting : Cutting mtu p l (map length ps) r m
  pub bytes : Laying out (p.start + p.used) (flat ps) o

pub packing-start : (mtu : ℕ) (p : Packer) (out l : List ℕ) (ps : List (List ℕ)) → p.used ≤ 1500 → AtMost 1500 (map length ps)
    → p.start + p.used + length (flat ps) ≤ length out → p.count + length (pack_sizes mtu p.used (map length ps)).0 ≤ length l
    → Packing mtu p out l ps (sized mtu p (map length ps)) (put out (p.start + p.used) (flat ps)) (put l p.count (pack_sizes mtu p.used (map length ps)).0)
packing-start mtu p out l ps h a b c = record { cutting = cutting-start mtu p l (map length ps) h a c; bytes = laying-start out (p.start + p.used) (flat ps) b }

module _ {mtu : ℕ} {p : Packer} {out l : List ℕ} {r : Packer} {o m : List ℕ} where
  -- what the next piece asks of the lists
  pub packing-fits : {x : List ℕ} {ps : List (List ℕ)} → Packing mtu p out l (x ∷ ps) r o m
      → (p.start + p.used + length x ≤ length out) × (p.count + length (goes_size mtu p.used (length x)) ≤ length l)
  unfolding flat
  packing-fits {x} {ps} g = (laying-fits x (flat ps) g.bytes, cutting-fits g.cutting)

  -- and what several ask
  pub packing_stage-fits : (ps qs : List (List ℕ)) → Packing mtu p out l (ps ++ qs) r o m
      → (p.start + p.used + length (flat ps) ≤ length out) × (p.count + length (pack_sizes mtu p.used (map length ps)).0 ≤ length l)
  packing_stage-fits ps qs g =
      (laying-fits (flat ps) (flat qs) (rw (flat_append ps qs) at g.bytes), cutting_stage-fits (map length ps) (map length qs) (rw (map-append length ps qs) at g.cutting))

  pub packing_stage : (ps qs : List (List ℕ)) (q : Packer) (b n : List ℕ) → Packing mtu p out l (ps ++ qs) r o m → mtu ≤ 1500 → q ≡ sized mtu p (map length ps)
      → b ≡ put out (p.start + p.used) (flat ps) → n ≡ put l p.count (pack_sizes mtu p.used (map length ps)).0 → Packing mtu q b n qs r o m
  packing_stage ps qs q b n g a e f h =
      let s = ap (λ (x : Packer). x.start + x.used) e ∙ sized-sum mtu p (map length ps) ∙ ap (λ (x : ℕ). p.start + p.used + x) (sym (length-flat ps)) in
      record {
        cutting = cutting_stage (map length ps) (map length qs) q n (rw (map-append length ps qs) at g.cutting) a e h;
        bytes = laying_on (flat ps) (flat qs) b (q.start + q.used) (rw (flat_append ps qs) at g.bytes) f s;
      }

  pub packing_on : {x : List ℕ} {ps : List (List ℕ)} (q : Packer) (b n : List ℕ) → Packing mtu p out l (x ∷ ps) r o m → mtu ≤ 1500 → q ≡ sized mtu p (length x ∷ [])
      → b ≡ put out (p.start + p.used) x → n ≡ put l p.count (goes_size mtu p.used (length x)) → Packing mtu q b n ps r o m
  unfolding flat
  packing_on {x} {ps} q b n g a e f h = packing_stage (x ∷ []) ps q b n g a e (rw append-nil f) (rw (cuts_one mtu p.used (length x)) h)

  pub packing-end : Packing mtu p out l [] r o m → (p ≡ r) × (out ≡ o) × (l ≡ m)
  unfolding flat
  packing-end g = let e = cutting-end g.cutting in (e.0, laying-end g.bytes, e.1)
