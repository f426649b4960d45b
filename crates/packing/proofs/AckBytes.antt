-- The laws of the acks' bytes and of a probe's, for the loops and tests that put them. Assumes nothing.
use Prim.Native.Nat.{ℕ, zero, suc, ◌+◌, ◌*◌, ◌-◌, ◌≤◌, ◌<◌}
use native.Mathlib.Nat.{add_comm, mul-suc, zero-add}
use native.Mathlib.Omega.{arith}
use mathlib.Core.Path.{◌≡◌, refl, sym, ap, ◌∙◌}
use mathlib.Core.Bool.{Bool, true, false}
use mathlib.Core.List.{List, [], ◌∷◌, ◌++◌, map, append-nil}
use lib.ListN.{length, replicate}
use Rattle.serial.specs.Branch.{pick, pick-ap}
use Rattle.ring.specs.Records.{put, number_at}
use Rattle.ring.proofs.Sequences.{map_append}
use Rattle.wire.specs.declared.Header.{Header}
use Rattle.wire.specs.Header.{header_bytes}
use Rattle.flushing.specs.declared.headers.Told.{Told}
use Rattle.flushing.specs.Pack.{flat, sum_of, pack_sizes, goes_size}
use Rattle.flushing.specs.Pieces.{Ack, Piece, piece_bytes, bare_head, ack_pieces, last_ack_of, last_ack, probe_piece}
use Rattle.flushing.proofs.Packing.{AtMost, flat_append, length-flat}
use Rattle.flushing.proofs.Calls.{header-size, piece-sizes, ack-piece-sizes}
use Rattle.packing.specs.declared.packer.Packer.{Packer}
use Rattle.packing.specs.Packer.{sized}
use Rattle.packing.specs.Acks.{pair_at, acks_from, acks_of, ack_bytes, probe_head}
use Rattle.packing.proofs.Laying.{Laying, laying_on, put_none}
use Rattle.packing.proofs.Turns.{cuts_one, sized_none}

-- ---- n pieces of k bytes

pub each_alike : (b k n : ℕ) → k ≤ b → AtMost b (replicate n k)
each_alike b k zero h = tt
each_alike b k (suc n) h = (h, each_alike b k n h)

pub total_alike : (n k : ℕ) → sum_of (replicate n k) ≡ k * n
unfolding sum_of
total_alike zero k = omega arith
total_alike (suc n) k = ap (λ (x : ℕ). k + x) (total_alike n k) ∙ add_comm k (k * n) ∙ sym (mul-suc k n)

-- all are left; the next of those that are left; none is left
pub alike_all : (n k : ℕ) → replicate (n - 0) k ≡ replicate n k
alike_all n k = let e : n - 0 ≡ n = omega arith in rw e

pub alike_next : (n i k : ℕ) → i < n → replicate (n - i) k ≡ k ∷ replicate (n - (i + 1)) k
alike_next n i k h = let e : n - i ≡ suc (n - (i + 1)) = omega arith in rw e

pub alike_none : (n i k : ℕ) → n ≤ i → replicate (n - i) k ≡ []
alike_none n i k h = let e : n - i ≡ 0 = omega arith in rw e

-- ---- the acks

pub acks-count : (acks : List ℕ) (i n : ℕ) → length (acks_from acks i n) ≡ n
unfolding acks_from
acks-count acks i zero = refl
acks-count acks i (suc n) = ap suc (acks-count acks (suc i) n)

module _ (t : Told) (acks : List ℕ) where
  pub ack-sizes : (i n : ℕ) → map length (ack_bytes t (acks_from acks i n)) ≡ replicate n 24
  ack-sizes i n =
      let l = acks_from acks i n in
      piece-sizes (ack_pieces t l) ∙ ack-piece-sizes t l ∙ ap (λ (k : ℕ). replicate k 24) (acks-count acks i n)

  pub acks-length : (i n : ℕ) → length (flat (ack_bytes t (acks_from acks i n))) ≡ 24 * n
  acks-length i n = length-flat (ack_bytes t (acks_from acks i n)) ∙ ap sum_of (ack-sizes i n) ∙ total_alike n 24

  -- one ack and the others
  acks-next : (i to : ℕ) → i < to
      → flat (ack_bytes t (acks_from acks i (to - i))) ≡ header_bytes (bare_head t 82 (number_at 2 acks i 0) (number_at 2 acks i 1)) ++ flat (ack_bytes t (acks_from acks (i + 1) (to - (i + 1))))
  unfolding acks_from flat
  acks-next i to h =
      let e : to - i ≡ suc (to - (i + 1)) = omega arith in
      let f : i + 1 ≡ suc i = omega arith in
      rw (e, append-nil, f)

  -- those of two parts
  from-split : (i m n : ℕ) → acks_from acks i (m + n) ≡ acks_from acks i m ++ acks_from acks (i + m) n
  unfolding acks_from
  from-split i zero n =
      let a : zero + n ≡ n = omega arith in
      let b : i + zero ≡ i = omega arith in
      rw (a, b)
  from-split i (suc m) n =
      let a : suc m + n ≡ suc (m + n) = omega arith in
      let b : i + suc m ≡ suc i + m = omega arith in
      rw (a, b, from-split (suc i) m n)

  pub acks-split : (i m n : ℕ) → flat (ack_bytes t (acks_from acks i (m + n))) ≡ flat (ack_bytes t (acks_from acks i m)) ++ flat (ack_bytes t (acks_from acks (i + m) n))
  acks-split i m n =
      let x = acks_from acks i m in
      let y = acks_from acks (i + m) n in
      ap (λ (l : List Ack). flat (ack_bytes t l)) (from-split i m n)
      ∙ ap (λ (l : List Piece). flat (map piece_bytes l)) (map_append _ x y)
      ∙ ap flat (map_append piece_bytes (ack_pieces t x) (ack_pieces t y))
      ∙ flat_append (ack_bytes t x) (ack_bytes t y)

  pub acks_none : (i to : ℕ) → to ≤ i → flat (ack_bytes t (acks_from acks i (to - i))) ≡ []
  unfolding acks_from flat
  acks_none i to h = let e : to - i ≡ 0 = omega arith in rw e

  -- the first of those that are still to be put has been put
  pub acks_on : {dst m : List ℕ} {i to end : ℕ} (sn ts : ℕ) (h : Header) (d : List ℕ) → Laying dst end (flat (ack_bytes t (acks_from acks i (to - i)))) m → i < to
      → sn ≡ number_at 2 acks i 0 → ts ≡ number_at 2 acks i 1 → h ≡ bare_head t 82 sn ts → d ≡ put dst end (header_bytes h)
      → Laying d (end + 24) (flat (ack_bytes t (acks_from acks (i + 1) (to - (i + 1))))) m
  acks_on {i = i} {to = to} {end = end} sn ts h d g l a b e f =
      let z : h ≡ bare_head t 82 (number_at 2 acks i 0) (number_at 2 acks i 1) = rw (← a, ← b) e in
      laying_on (header_bytes h) _ d (end + 24) (rw (acks-next i to l, ← z) at g) f (ap (λ (n : ℕ). end + n) (sym (header-size h)))

-- ---- probes

last_from : (acks : List ℕ) (i n : ℕ) (a : Ack) → last_ack_of a (acks_from acks i (suc n)) ≡ pair_at acks (i + n)
unfolding last_ack_of acks_from
last_from acks i zero a = let e : i + 0 ≡ i = omega arith in rw e
last_from acks i (suc n) a = let e : suc i + n ≡ i + suc n = omega arith in rw e at (last_from acks (suc i) n (pair_at acks i))

module _ (t : Told) (acks : List ℕ) (n cmd : ℕ) (h : Header) where
  pub probe_none : n ≡ 0 → h ≡ bare_head t cmd 0 0 → header_bytes h ≡ probe_head t cmd (acks_of acks n)
  unfolding last_ack_of acks_from
  probe_none z e = rw (e, z)

  pub probe-some : (sn ts : ℕ) → (n ≡ 0 → ⊥) → sn ≡ number_at 2 acks (n - 1) 0 → ts ≡ number_at 2 acks (n - 1) 1 → h ≡ bare_head t cmd sn ts
      → header_bytes h ≡ probe_head t cmd (acks_of acks n)
  probe-some sn ts z a b e =
      let k : n ≡ suc (n - 1) = omega (arith, z) in
      let l : last_ack (acks_of acks n) ≡ pair_at acks (n - 1) =
      ap (λ (i : ℕ). last_ack (acks_of acks i)) k ∙ last_from acks 0 (n - 1) _ ∙ rw zero-add in
      rw (e, a, b, l)

-- the probe of the rules is that head, if its bit is set
pub probe-bytes : (t : Told) (cmd : ℕ) (on : Bool) (acks : List Ack) → map piece_bytes (probe_piece t cmd on acks) ≡ pick on (probe_head t cmd acks ∷ []) []
unfolding probe_piece
probe-bytes t cmd on acks = pick-ap (map piece_bytes) on _ _ ∙ rw append-nil

module _ (mtu : ℕ) (p : Packer) (on : Bool) (head : List ℕ) (l : length head ≡ 24) where
  abbrev asked : List (List ℕ)
  asked = pick on (head ∷ []) []

  -- what it asks of the lists
  pub probe-needs : on ≡ true → (a b : ℕ) → p.start + p.used + length (flat asked) ≤ a → p.count + length (pack_sizes mtu p.used (map length asked)).0 ≤ b
      → (p.start + p.used + 24 ≤ a) × (p.count + length (goes_size mtu p.used 24) ≤ b)
  unfolding pick flat
  probe-needs h a b g d = (rw (h, append-nil, l) at g, rw (h, l, cuts_one) at d)

  pub probe-done : on ≡ true → (r : Packer) (out o lengths n : List ℕ) → r ≡ sized mtu p (24 ∷ []) → o ≡ put out (p.start + p.used) head
      → n ≡ put lengths p.count (goes_size mtu p.used 24)
      → (r ≡ sized mtu p (map length asked)) × ((o ≡ put out (p.start + p.used) (flat asked)) × (n ≡ put lengths p.count (pack_sizes mtu p.used (map length asked)).0))
  unfolding pick flat
  probe-done h r out o lengths n er eo el = (er ∙ rw (h, l), (eo ∙ rw (h, append-nil), el ∙ rw (h, l, cuts_one)))

  pub probe-skip : on ≡ false → (out lengths : List ℕ)
      → (p ≡ sized mtu p (map length asked)) × ((out ≡ put out (p.start + p.used) (flat asked)) × (lengths ≡ put lengths p.count (pack_sizes mtu p.used (map length asked)).0))
  unfolding pick flat pack_sizes
  probe-skip h out lengths = (rw h (sym (sized_none mtu p)), (rw h (sym (put_none out _)), rw h (sym (put_none lengths _))))
