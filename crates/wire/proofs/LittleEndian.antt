-- A number and its bytes, once for every width. Assumes nothing.
use Prim.Native.Nat.{ℕ, zero, suc, ◌+◌, ◌*◌, ◌/◌, ◌%◌, ◌^◌, ◌≤◌, ◌<◌}
use native.Mathlib.Nat.{div-lt_iff_lt-mul, pow-suc}
use native.Mathlib.Omega.{arith}
use mathlib.Core.Path.{◌≡◌, refl, sym, ap, ◌∙◌, subst}
use mathlib.Core.List.{List, [], ◌∷◌, ◌++◌}
use lib.ListN.{length, get_or, take, drop, length-drop}
use lib.Seq.{drop-cons, get_or-drop, length-take-le, take-add, drop-drop}
use Rattle.std.specs.Int.{w16, w32, to_le_bytes}
use Rattle.wire.specs.LittleEndian.{number, le_at, le_bytes, Octets}

-- the bytes as std's method makes them
pub le_two : (x : ℕ) → to_le_bytes w16 x ≡ le_bytes 2 x
le_two x = refl

pub le_four : (x : ℕ) → to_le_bytes w32 x ≡ le_bytes 4 x
le_four x =
    let e : x / 65536 ≡ x / 256 / 256 = omega arith in
    let f : x / 16777216 ≡ x / 256 / 256 / 256 = omega arith in rw (e, f)

pub length-le_bytes : (n x : ℕ) → length (le_bytes n x) ≡ n
length-le_bytes zero x = refl
length-le_bytes (suc n) x = ap suc (length-le_bytes n (x / 256))

-- a number that fits n bytes is that of its n bytes
pub number-le_bytes : (n x : ℕ) → x < 256 ^ n → number (le_bytes n x) ≡ x
number-le_bytes zero x h = omega arith
number-le_bytes (suc n) x h =
    let e = number-le_bytes n (x / 256) ((div-lt_iff_lt-mul (omega arith)).1 (rw (pow-suc 256 n) at h)) in omega arith

-- bytes are those of their number
pub le_bytes-number : (l : List ℕ) → Octets l → le_bytes (length l) (number l) ≡ l
le_bytes-number [] h = refl
le_bytes-number (b ∷ l) h =
    let m = number l in
    let low : (b + 256 * m) % 256 ≡ b = let k : b < 256 = h 0 in omega arith in
    let high : (b + 256 * m) / 256 ≡ m = let k : b < 256 = h 0 in omega arith in
    rw (low, high, le_bytes-number l (λ k. h (suc k)))

-- n bytes make a number below 256^n
pub number_below : (l : List ℕ) → Octets l → number l < 256 ^ length l
number_below [] h = omega arith
number_below (b ∷ l) h = let k : b < 256 = h 0 in let m = number_below l (λ i. h (suc i)) in rw (pow-suc 256 (length l)) (omega arith)

-- a part of bytes is bytes
pub bytes_take : (n : ℕ) (l : List ℕ) → Octets l → Octets (take n l)
bytes_take zero l h k = omega arith
bytes_take (suc n) [] h k = omega arith
bytes_take (suc n) (b ∷ l) h zero = h 0
bytes_take (suc n) (b ∷ l) h (suc k) = bytes_take n l (λ i. h (suc i)) k

pub bytes_drop : (n : ℕ) (l : List ℕ) → Octets l → Octets (drop n l)
bytes_drop n l h k = rw get_or-drop (h (n + k))

module _ (s : List ℕ) where
  part_length : (n p : ℕ) → p + n ≤ length s → length (take n (drop p s)) ≡ n
  part_length n p h = length-take-le n (drop p s) (simp length-drop (omega arith))

  -- what was read at p, written, is the bytes that stand there
  pub written_read : (n p : ℕ) → p + n ≤ length s → Octets s → le_bytes n (le_at n s p) ≡ take n (drop p s)
  written_read n p h b =
      subst (λ (k : ℕ). le_bytes k (le_at n s p) ≡ take n (drop p s)) (part_length n p h)
      (le_bytes-number (take n (drop p s)) (bytes_take n (drop p s) (bytes_drop p s b)))

  -- what was read at p is below 256^n
  pub le_at_below : (n p : ℕ) → p + n ≤ length s → Octets s → le_at n s p < 256 ^ n
  le_at_below n p h b =
      subst (λ (k : ℕ). le_at n s p < 256 ^ k) (part_length n p h) (number_below (take n (drop p s)) (bytes_take n (drop p s) (bytes_drop p s b)))

  -- what was read at p, written, and then the m bytes from q on, are the n + m bytes at p
  pub written_more : (n p q m : ℕ) {rest : List ℕ} → p + n ≡ q → q ≤ length s → Octets s → rest ≡ take m (drop q s)
      → le_bytes n (le_at n s p) ++ rest ≡ take (n + m) (drop p s)
  written_more n p q m {rest} e h b r =
      ap (λ (l : List ℕ). l ++ rest) (written_read n p (omega arith) b)
      ∙ ap (λ (l : List ℕ). take n (drop p s) ++ l) (r ∙ ap (λ (k : ℕ). take m (drop k s)) (sym e) ∙ ap (take m) (sym (drop-drop n p s)))
      ∙ sym (take-add n m (drop p s))

  -- a byte, and then the m from q on
  pub byte_more : (p q m : ℕ) {rest : List ℕ} → suc p ≡ q → q ≤ length s → rest ≡ take m (drop q s) → get_or s p 0 ∷ rest ≡ take (suc m) (drop p s)
  byte_more p q m e h r = rw (drop-cons s p 0 (omega arith), e, r)
