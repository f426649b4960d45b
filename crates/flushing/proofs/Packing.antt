-- The laws of packing: the lengths follow from lengths alone, and no byte is lost or moved. Assumes nothing.
use Prim.Native.Nat.{ℕ, zero, suc, ◌+◌, ◌≤◌}
use native.Mathlib.Nat.{add_assoc}
use native.Mathlib.Omega.{arith}
use mathlib.Core.Path.{◌≡◌, refl, sym, ap, ◌∙◌}
use mathlib.Core.Bool.{Bool, true, false}
use mathlib.Core.List.{List, [], ◌∷◌, ◌++◌, map, map-append, append_assoc, append-nil}
use lib.ListN.{length, length-append}
use lib.Dec.{ltb}
use borrow.Author.Tests.{ltb-false}
use Rattle.serial.specs.Branch.{pick, pick-ap}
use Rattle.flushing.specs.Pack.{flat, sum_of, datagram_of, goes, stays, pack, pack_all, datagram_size, goes_size, stays_size, pack_sizes, pack_all_sizes}

-- ---- lists of lists

module _ {A : Type 0} where
  pub flat_append : (x y : List (List A)) → flat (x ++ y) ≡ flat x ++ flat y
  unfolding flat
  flat_append [] y = refl
  flat_append (p ∷ x) y = ap (λ (l : List A). p ++ l) (flat_append x y) ∙ sym (append_assoc p (flat x) (flat y))

  pub length-flat : (ps : List (List A)) → length (flat ps) ≡ sum_of (map length ps)
  unfolding flat sum_of
  length-flat [] = refl
  length-flat (p ∷ ps) = length-append p (flat ps) ∙ ap (λ (k : ℕ). length p + k) (length-flat ps)

  -- ---- one piece

  pub datagram-size : (w : List A) → map length (datagram_of w) ≡ datagram_size (length w)
  unfolding datagram_of datagram_size
  datagram-size [] = refl
  datagram-size (b ∷ w) = refl

  pub flat_datagram : (w : List A) → flat (datagram_of w) ≡ w
  unfolding flat datagram_of
  flat_datagram [] = refl
  flat_datagram (b ∷ w) = append-nil (b ∷ w)

  module _ (mtu : ℕ) (w p : List A) where
    pub goes-size : map length (goes mtu w p) ≡ goes_size mtu (length w) (length p)
    unfolding goes goes_size
    goes-size = pick-ap (map length) (ltb mtu (length w + length p)) (datagram_of w) [] ∙ rw (datagram-size w)

    pub stays-size : length (stays mtu w p) ≡ stays_size mtu (length w) (length p)
    unfolding stays stays_size
    stays-size = pick-ap length (ltb mtu (length w + length p)) p (w ++ p) ∙ rw (length-append w p)

    step-joined : flat (goes mtu w p) ++ stays mtu w p ≡ w ++ p
    unfolding goes stays pick flat
    step-joined = of (ltb mtu (length w + length p))
      where
        of : (b : Bool) → flat (pick b (datagram_of w) []) ++ pick b p (w ++ p) ≡ w ++ p
        of true = ap (λ (l : List A). l ++ p) (flat_datagram w)
        of false = refl

  -- ---- all pieces

  module _ (mtu : ℕ) where
    pub pack-sizes : (w : List A) (ps : List (List A)) → map length (pack mtu w ps).0 ≡ (pack_sizes mtu (length w) (map length ps)).0
    unfolding pack pack_sizes
    pack-sizes w [] = refl
    pack-sizes w (p ∷ ps) = map-append length (goes mtu w p) _ ∙ rw (goes-size, pack-sizes (stays mtu w p) ps, stays-size)

    pub pack-rest : (w : List A) (ps : List (List A)) → length (pack mtu w ps).1 ≡ (pack_sizes mtu (length w) (map length ps)).1
    unfolding pack pack_sizes
    pack-rest w [] = refl
    pack-rest w (p ∷ ps) = rw (pack-rest (stays mtu w p) ps, stays-size)

    -- no byte is lost and none moves: the datagrams end to end, and then what waits, are what waited and then the pieces
    pub joined : (w : List A) (ps : List (List A)) → flat (pack mtu w ps).0 ++ (pack mtu w ps).1 ≡ w ++ flat ps
    unfolding pack flat
    joined w [] = sym (append-nil w)
    joined w (p ∷ ps) =
        let g = flat (goes mtu w p) in
        let rest = pack mtu (stays mtu w p) ps in
        ap (λ (l : List A). l ++ rest.1) (flat_append (goes mtu w p) rest.0)
        ∙ append_assoc g (flat rest.0) rest.1
        ∙ ap (λ (l : List A). g ++ l) (joined (stays mtu w p) ps)
        ∙ sym (append_assoc g (stays mtu w p) (flat ps))
        ∙ ap (λ (l : List A). l ++ flat ps) (step-joined mtu w p)
        ∙ append_assoc w p (flat ps)

    module _ (w : List A) (ps : List (List A)) where
      -- where nothing is left to wait
      pub all-joined : flat (pack_all mtu w ps) ≡ w ++ flat ps
      unfolding pack_all
      all-joined = flat_append (pack mtu w ps).0 (datagram_of (pack mtu w ps).1) ∙ rw (flat_datagram (pack mtu w ps).1) (joined w ps)

      pub all-sizes : map length (pack_all mtu w ps) ≡ pack_all_sizes mtu (length w) (map length ps)
      unfolding pack_all pack_all_sizes
      all-sizes =
          map-append length (pack mtu w ps).0 (datagram_of (pack mtu w ps).1)
          ∙ rw (datagram-size (pack mtu w ps).1, pack-sizes w ps, pack-rest w ps)

-- ---- sizes: their sum, and the most

-- each at most b
abbrev pub AtMost : ℕ → List ℕ → Type 0
AtMost b [] = Unit {0}
AtMost b (n ∷ l) = (n ≤ b) × AtMost b l

pub at_most_append : (b : ℕ) (x y : List ℕ) → AtMost b x → AtMost b y → AtMost b (x ++ y)
at_most_append b [] y p q = q
at_most_append b (n ∷ x) y p q = (p.0, at_most_append b x y p.1 q)

pub sum_append : (x y : List ℕ) → sum_of (x ++ y) ≡ sum_of x + sum_of y
unfolding sum_of
sum_append [] y = omega arith
sum_append (n ∷ x) y = ap (λ (k : ℕ). n + k) (sum_append x y) ∙ sym (add_assoc n (sum_of x) (sum_of y))

datagram-total : (n : ℕ) → sum_of (datagram_size n) ≡ n
unfolding sum_of datagram_size
datagram-total zero = refl
datagram-total (suc n) = omega arith

datagram-most : (b n : ℕ) → n ≤ b → AtMost b (datagram_size n)
unfolding datagram_size
datagram-most b zero h = tt
datagram-most b (suc n) h = (h, tt)

module _ (mtu : ℕ) where
  step_sum : (n k : ℕ) → sum_of (goes_size mtu n k) + stays_size mtu n k ≡ n + k
  unfolding goes_size stays_size pick sum_of
  step_sum n k = of (ltb mtu (n + k))
    where
      of : (t : Bool) → sum_of (pick t (datagram_size n) []) + pick t k (n + k) ≡ n + k
      of true = ap (λ (x : ℕ). x + k) (datagram-total n)
      of false = omega arith

  -- the sizes of the datagrams and of what waits are those of what waited and the pieces
  pub sizes-sum : (n : ℕ) (ks : List ℕ) → sum_of (pack_sizes mtu n ks).0 + (pack_sizes mtu n ks).1 ≡ n + sum_of ks
  unfolding pack_sizes sum_of
  sizes-sum n [] = omega arith
  sizes-sum n (k ∷ ks) =
      omega (arith, sizes-sum (stays_size mtu n k) ks, step_sum n k, sum_append (goes_size mtu n k) (pack_sizes mtu (stays_size mtu n k) ks).0)

  pub all-sum : (n : ℕ) (ks : List ℕ) → sum_of (pack_all_sizes mtu n ks) ≡ n + sum_of ks
  unfolding pack_all_sizes
  all-sum n ks =
      sum_append (pack_sizes mtu n ks).0 (datagram_size (pack_sizes mtu n ks).1)
      ∙ ap (λ (x : ℕ). sum_of (pack_sizes mtu n ks).0 + x) (datagram-total (pack_sizes mtu n ks).1)
      ∙ sizes-sum n ks

  -- where neither the mtu, nor what waits, nor a piece is over b, no datagram is, and no more is left to wait
  module _ (b : ℕ) (m : mtu ≤ b) where
    stays-most : (n k : ℕ) → k ≤ b → stays_size mtu n k ≤ b
    unfolding stays_size pick
    stays-most n k h = of (ltb mtu (n + k)) refl
      where
        of : (t : Bool) → ltb mtu (n + k) ≡ t → pick t k (n + k) ≤ b
        of true e = h
        of false e = omega (arith, ltb-false mtu (n + k) e)

    goes-most : (n k : ℕ) → n ≤ b → AtMost b (goes_size mtu n k)
    unfolding goes_size pick
    goes-most n k h = of (ltb mtu (n + k))
      where
        of : (t : Bool) → AtMost b (pick t (datagram_size n) [])
        of true = datagram-most b n h
        of false = tt

    pub rest-most : (n : ℕ) (ks : List ℕ) → n ≤ b → AtMost b ks → (pack_sizes mtu n ks).1 ≤ b
    unfolding pack_sizes
    rest-most n [] h a = h
    rest-most n (k ∷ ks) h a = rest-most (stays_size mtu n k) ks (stays-most n k a.0) a.1

    pub each-most : (n : ℕ) (ks : List ℕ) → n ≤ b → AtMost b ks → AtMost b (pack_sizes mtu n ks).0
    unfolding pack_sizes
    each-most n [] h a = tt
    each-most n (k ∷ ks) h a =
        at_most_append b (goes_size mtu n k) (pack_sizes mtu (stays_size mtu n k) ks).0 (goes-most n k h) (each-most (stays_size mtu n k) ks (stays-most n k a.0) a.1)

    pub all_most : (n : ℕ) (ks : List ℕ) → n ≤ b → AtMost b ks → AtMost b (pack_all_sizes mtu n ks)
    unfolding pack_all_sizes
    all_most n ks h a =
        at_most_append b (pack_sizes mtu n ks).0 (datagram_size (pack_sizes mtu n ks).1) (each-most n ks h a) (datagram-most b (pack_sizes mtu n ks).1 (rest-most n ks h a))

-- no datagram of no bytes
module _ (mtu : ℕ) where
  none-goes : goes_size mtu 0 0 ≡ []
  unfolding goes_size datagram_size pick
  none-goes = of (ltb mtu (0 + 0))
    where
      of : (t : Bool) → pick t (datagram_size 0) [] ≡ []
      of true = refl
      of false = refl

  none_stays : stays_size mtu 0 0 ≡ 0
  none_stays = let s = step_sum mtu 0 0 in omega arith

  none-packed : (ks : List ℕ) → sum_of ks ≡ 0 → ((pack_sizes mtu 0 ks).0 ≡ []) × ((pack_sizes mtu 0 ks).1 ≡ 0)
  unfolding pack_sizes sum_of
  none-packed [] e = (refl, refl)
  none-packed (k ∷ ks) e =
      let z : k ≡ 0 = omega arith in
      let g : goes_size mtu 0 k ≡ [] = rw z none-goes in
      let s : stays_size mtu 0 k ≡ 0 = rw z none_stays in
      let i = none-packed ks (omega arith) in
      (rw (g, s) i.0, ap (λ (n : ℕ). (pack_sizes mtu n ks).1) s ∙ i.1)

  pub all_none : (n : ℕ) (ks : List ℕ) → n + sum_of ks ≡ 0 → pack_all_sizes mtu n ks ≡ []
  unfolding pack_all_sizes datagram_size
  all_none n ks e =
      let z : n ≡ 0 = omega arith in
      let i = none-packed ks (omega arith) in
      rw (z, i.0, i.1)
