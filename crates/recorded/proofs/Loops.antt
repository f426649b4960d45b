-- The loops over numbers and over the bytes of a message, one turn and the end of each. Assumes nothing.
use Rattle.std.proofs.Common.{◌≡◌, ℕ, suc, ◌+◌, ◌-◌, ◌%◌, ◌<◌, ◌≤◌, List, [], ◌∷◌, ◌++◌, map, ap, ◌∙◌, length, get_or, take, drop, set, refl, append_assoc, append-nil, add-one, arith, drop_of_length-le, take_all, drop-cons, take-suc-set}
use Rattle.serial.specs.Wrap.{add32, mul32}
use Rattle.recorded.specs.Sums.{sum_from, sum_of, rising, Wide}

-- nothing is summed yet
pub sum_first : {T : Type 0} (f : T → ℕ) (ns : List T) → sum_from 0 0 (map f (drop 0 ns)) ≡ sum_of (map f ns)
unfolding sum_of
sum_first f ns = refl

-- the number x at i goes into the sum, as n
pub sum_more : {T : Type 0} (f : T → ℕ) (ns : List T) (x : T) (place sum i n : ℕ) → i < length ns → x ≡ get_or ns i x → n ≡ f x
    → sum_from (add32 place 1) (add32 sum (mul32 n (add32 place 1))) (map f (drop (i + 1) ns)) ≡ sum_from place sum (map f (drop i ns))
unfolding sum_from
sum_more f ns x place sum i n h e g = rw (add-one i, drop-cons ns i x h, ← e, g)

pub sum-end : {T : Type 0} (f : T → ℕ) (ns : List T) (place sum i : ℕ) → length ns ≤ i → sum_from place sum (map f (drop i ns)) ≡ sum
unfolding sum_from
sum-end f ns place sum i h = rw (drop_of_length-le ns h)

-- a number converts to itself
map-same : (ns : List ℕ) → map (λ n. n) ns ≡ ns
map-same [] = refl
map-same (n ∷ ns) = ap (λ (r : List ℕ). n ∷ r) (map-same ns)

pub sum_plain : (ns : List ℕ) {n : ℕ} → ((f : ℕ → ℕ) → Wide (λ x y. y ≡ x) f → n ≡ sum_of (map f ns)) → n ≡ sum_of ns
sum_plain ns h = h (λ n. n) (λ x n e. e) ∙ ap sum_of (map-same ns)

-- the byte at i is written, and the next is 7 more
pub fill_more : (bs : List ℕ) (byte i n : ℕ) → i < n → length bs ≡ n
    → take (i + 1) (set bs i byte) ++ rising ((byte + 7) % 256) (n - (i + 1)) ≡ take i bs ++ rising byte (n - i)
unfolding rising
fill_more bs byte i n h l =
    let e : n - i ≡ suc (n - (i + 1)) = omega arith in
    let k : i < length bs = omega arith in
    rw (e, add-one i, take-suc-set bs i byte k, append_assoc)

pub fill_end : (bs : List ℕ) (byte i n : ℕ) → n ≤ i → length bs ≡ n → take i bs ++ rising byte (n - i) ≡ bs
unfolding rising
fill_end bs byte i n h l =
    let e : n - i ≡ 0 = omega arith in
    let k : length bs ≤ i = omega arith in
    rw (e, append-nil, take_all i bs k)
