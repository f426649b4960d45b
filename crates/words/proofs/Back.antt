-- Reading what was written gives the block back, and writing what was read gives the words back; so a call that writes the words that it changed has
-- written the words of its block. Assumes nothing.
use Prim.Native.Nat.{ℕ, zero, suc, ◌+◌, ◌*◌, ◌/◌, ◌%◌, ◌<◌}
use mathlib.Core.Path.{◌≡◌, refl, sym, ap, ◌∙◌}
use native.Mathlib.Omega.{arith}
use mathlib.Core.Bool.{Bool, true, false}
use mathlib.Core.List.{List, [], ◌∷◌}
use lib.Dec.{eqb}
use lib.ListN.{length, drop, drop_of_length-le}
use lib.Seq.{drop-cons}
use Rattle.block.specs.declared.Kcp.{Kcp}
use Rattle.words.specs.Words.{bit, pair, words_of, at, block_of, is_block}
use Rattle.words.proofs.Tests.{exactly-block}

-- ---- the block of a block's words

-- the numbers of a block that have 16 bits are in range
pub record ShortNumbers (k : Kcp) : Type 0 where
  pub ssthresh : k.congestion.ssthresh < 65536
  pub snd : k.congestion.snd_wnd < 65536
  pub rcv : k.receiver.rcv_wnd < 65536
  pub rmt : k.congestion.rmt_wnd < 65536
  pub cwnd : k.congestion.cwnd < 65536
  pub largest : k.receiver.largest < 65536

low-pair : (a b : ℕ) → a < 65536 → pair a b % 65536 ≡ a
low-pair a b h = omega arith

high-pair : (a b : ℕ) → a < 65536 → pair a b / 65536 ≡ b
high-pair a b h = omega arith

halves : (x : ℕ) → x % 4294967296 + x / 4294967296 * 4294967296 ≡ x
halves x = omega arith

-- the six flags of the word that they make
bit_two : (b : Bool) → bit b < 2
bit_two true = omega arith
bit_two false = omega arith

bit-flag : (b : Bool) → eqb (bit b) 1 ≡ b
bit-flag true = refl
bit-flag false = refl

abbrev word : Bool → Bool → Bool → Bool → Bool → Bool → ℕ
word a b c d e f = bit a + (2 * bit b + (4 * bit c + (8 * bit d + (16 * bit e + 32 * bit f))))

module _ (x a b c d e f : ℕ) (made : x ≡ a + (2 * b + (4 * c + (8 * d + (16 * e + 32 * f))))) (ha : a < 2) (hb : b < 2) (hc : c < 2) (hd : d < 2) (he : e < 2) (hf : f < 2) where
  first_bit : x / 1 % 2 ≡ a
  first_bit = omega arith

  second-bit : x / 2 % 2 ≡ b
  second-bit = omega arith

  third-bit : x / 4 % 2 ≡ c
  third-bit = omega arith

  fourth-bit : x / 8 % 2 ≡ d
  fourth-bit = omega arith

  fifth-bit : x / 16 % 2 ≡ e
  fifth-bit = omega arith

  sixth-bit : x / 32 % 2 ≡ f
  sixth-bit = omega arith

flags-back : (a b c d e f : Bool)
    → (eqb (word a b c d e f / 1 % 2) 1 ≡ a) × (eqb (word a b c d e f / 2 % 2) 1 ≡ b) × (eqb (word a b c d e f / 4 % 2) 1 ≡ c) × (eqb (word a b c d e f / 8 % 2) 1 ≡ d) × (eqb (word a b c d e f / 16 % 2) 1 ≡ e) × (eqb (word a b c d e f / 32 % 2) 1 ≡ f)
flags-back a b c d e f = (
  rw (first_bit (word a b c d e f) (bit a) (bit b) (bit c) (bit d) (bit e) (bit f) refl (bit_two a) (bit_two b) (bit_two c) (bit_two d) (bit_two e) (bit_two f)) (bit-flag a),
  rw (second-bit (word a b c d e f) (bit a) (bit b) (bit c) (bit d) (bit e) (bit f) refl (bit_two a) (bit_two b) (bit_two c) (bit_two d) (bit_two e) (bit_two f)) (bit-flag b),
  rw (third-bit (word a b c d e f) (bit a) (bit b) (bit c) (bit d) (bit e) (bit f) refl (bit_two a) (bit_two b) (bit_two c) (bit_two d) (bit_two e) (bit_two f)) (bit-flag c),
  rw (fourth-bit (word a b c d e f) (bit a) (bit b) (bit c) (bit d) (bit e) (bit f) refl (bit_two a) (bit_two b) (bit_two c) (bit_two d) (bit_two e) (bit_two f)) (bit-flag d),
  rw (fifth-bit (word a b c d e f) (bit a) (bit b) (bit c) (bit d) (bit e) (bit f) refl (bit_two a) (bit_two b) (bit_two c) (bit_two d) (bit_two e) (bit_two f)) (bit-flag e),
  rw (sixth-bit (word a b c d e f) (bit a) (bit b) (bit c) (bit d) (bit e) (bit f) refl (bit_two a) (bit_two b) (bit_two c) (bit_two d) (bit_two e) (bit_two f)) (bit-flag f),
)

pub block_back : (k : Kcp) → ShortNumbers k → block_of (words_of k) ≡ k
unfolding block_of words_of
block_back k r =
    let t = flags-back k.settings.nodelay k.settings.nocwnd k.settings.stream k.settings.input_conv k.clock.updated k.sender.dead in
    rw (
      t.0,
      t.1,
      t.2,
      t.3,
      t.4,
      t.5,
      low-pair k.receiver.rcv_wnd k.receiver.largest r.rcv,
      high-pair k.receiver.rcv_wnd k.receiver.largest r.rcv,
      low-pair k.congestion.snd_wnd k.congestion.rmt_wnd r.snd,
      high-pair k.congestion.snd_wnd k.congestion.rmt_wnd r.snd,
      low-pair k.congestion.cwnd k.congestion.ssthresh r.cwnd,
      high-pair k.congestion.cwnd k.congestion.ssthresh r.cwnd,
      halves k.congestion.incr,
    )

-- ---- the words of a word's block

one_bit : (x : ℕ) → x < 2 → bit (eqb x 1) ≡ x
one_bit zero h = refl
one_bit (suc zero) h = refl
one_bit (suc (suc n)) h = absurd (omega arith)

-- the six bits of a number under 64 make it
halved : (x : ℕ) → x ≡ x % 2 + 2 * (x / 2)
halved x = omega arith

again : (x : ℕ) → (x / 2 / 2 ≡ x / 4) × (x / 4 / 2 ≡ x / 8) × (x / 8 / 2 ≡ x / 16) × (x / 16 / 2 ≡ x / 32)
again x = (omega arith, omega arith, omega arith, omega arith)

chain : (x a b c d e f p q r s t : ℕ) → x ≡ a + 2 * p → p ≡ b + 2 * q → q ≡ c + 2 * r → r ≡ d + 2 * s → s ≡ e + 2 * t → t ≡ f
    → a + (2 * b + (4 * c + (8 * d + (16 * e + 32 * f)))) ≡ x
chain x a b c d e f p q r s t h i j k l m = omega arith

six_bits : (x : ℕ) → x < 64
    → bit (eqb (x / 1 % 2) 1) + (2 * bit (eqb (x / 2 % 2) 1) + (4 * bit (eqb (x / 4 % 2) 1) + (8 * bit (eqb (x / 8 % 2) 1) + (16 * bit (eqb (x / 16 % 2) 1) + 32 * bit (eqb (x / 32 % 2) 1))))) ≡ x
six_bits x h =
    let g = again x in
    let u : x / 1 ≡ x = omega arith in
    let last : x / 32 ≡ x / 32 % 2 = omega arith in
    rw (
      one_bit (x / 1 % 2) (omega arith),
      one_bit (x / 2 % 2) (omega arith),
      one_bit (x / 4 % 2) (omega arith),
      one_bit (x / 8 % 2) (omega arith),
      one_bit (x / 16 % 2) (omega arith),
      one_bit (x / 32 % 2) (omega arith),
      u,
    )
    (chain x (x % 2) (x / 2 % 2) (x / 4 % 2) (x / 8 % 2) (x / 16 % 2) (x / 32 % 2) (x / 2) (x / 4) (x / 8) (x / 16) (x / 32) (halved x) (rw g.0 at (halved (x / 2))) (rw g.1 at (halved (x / 4))) (rw g.2 at (halved (x / 8))) (rw g.3 at (halved (x / 16))) last)

pair-back : (x : ℕ) → pair (x % 65536) (x / 65536) ≡ x
pair-back x = omega arith

low_half : (a b : ℕ) → a < 4294967296 → (a + b * 4294967296) % 4294967296 ≡ a
low_half a b h = omega arith

high_half : (a b : ℕ) → a < 4294967296 → (a + b * 4294967296) / 4294967296 ≡ b
high_half a b h = omega arith

-- the n words from word i on, one by one
abbrev spread : List ℕ → ℕ → ℕ → List ℕ
spread l i zero = []
spread l i (suc n) = at l i ∷ spread l (suc i) n

spread-drop : (l : List ℕ) (i n : ℕ) → i + n ≡ length l → spread l i n ≡ drop i l
spread-drop l i zero h = sym (drop_of_length-le l {i = i} (omega arith))
spread-drop l i (suc n) h =
    ap (λ (r : List ℕ). at l i ∷ r) (spread-drop l (suc i) n (omega arith)) ∙ sym (drop-cons l i 0 (omega arith))

pub words_back : (l : List ℕ) → is_block l ≡ true → ((i : ℕ) → at l i < 4294967296) → words_of (block_of l) ≡ l
unfolding block_of words_of
words_back l h w =
    let e = (exactly-block l).holds h in
    let all : spread l 0 35 ≡ l = spread-drop l 0 35 (sym e.0) in
    rw (six_bits (at l 0) e.1, pair-back (at l 5), pair-back (at l 19), pair-back (at l 20), low_half (at l 21) (at l 22) (w 21), high_half (at l 21) (at l 22) (w 21)) all
