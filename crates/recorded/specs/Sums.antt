-- The bytes that are sent, and the sum by which a step holds what comes out (the head of oracle/driver/src/bin/sample.rs). Assumes nothing.
use Rattle.std.specs.Prelude.{ℕ, zero, suc, ◌+◌, ◌%◌, ◌^◌, ◌≡◌, Bool, List, [], ◌∷◌, replicate}
use Rattle.std.specs.Int.{from_bool}
use Rattle.serial.specs.Wrap.{add32, mul32}

-- "A sum is that of number * (index + 1), modulo 2^32": from a place and a sum on
unfoldable pub sum_from : ℕ → ℕ → List ℕ → ℕ
sum_from place sum [] = sum
sum_from place sum (b ∷ bs) = sum_from (add32 place 1) (add32 sum (mul32 b (add32 place 1))) bs

unfoldable pub sum_of : List ℕ → ℕ
sum_of bs = sum_from 0 0 bs

-- f says what R converts to: R is the `converts` of a type's `Into<u32>`
abbrev pub Wide : {T : Type 0} → (T → ℕ → Type 0) → (T → ℕ) → Type 0
Wide {T} R f = (x : T) (n : ℕ) → R x n → n ≡ f x

-- n bytes: "the byte at index i is (byte + 7 i) mod 256"
unfoldable pub rising : ℕ → ℕ → List ℕ
rising byte zero = []
rising byte (suc n) = byte ∷ rising ((byte + 7) % 256) n

-- a buffer of n numbers before anything is written there, so that what no call wrote adds nothing to its sum
unfoldable pub zeros : ℕ → List ℕ
zeros n = replicate n 0

-- "a flag as 0 or 1", and a wider number as one of 32 bits
abbrev pub bit : Bool → ℕ
bit b = from_bool b

abbrev pub low32 : ℕ → ℕ
low32 n = n % 2 ^ 32
