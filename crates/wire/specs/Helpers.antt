-- "16 | ShortHeader | header helpers on under 24 bytes | all as it was".
-- Assumes nothing.
use Rattle.std.specs.Prelude.{ℕ, ◌≡◌, List, [], ◌∷◌, ◌++◌, ltb, length, drop, Result, Ok, Err}
use Rattle.serial.specs.Branch.{pick}
use Rattle.wire.specs.declared.Header.{Header}
use Rattle.wire.specs.LittleEndian.{le_bytes}
use Rattle.wire.specs.Header.{header_at}
use Rattle.wire.specs.declared.ShortHeader.{ShortHeader}

-- the number of ShortHeader
abbrev pub sixteen : ℕ
sixteen = 16

-- "16 .. on under 24 bytes", and 0 where nothing is refused
unfoldable pub short_header : List ℕ → ℕ
short_header s = pick (ltb (length s) 24) sixteen 0

-- what is answered under 24 bytes
abbrev pub under_24 : ShortHeader
under_24 = record {}

-- the number of an answer, 0 where nothing is refused
abbrev pub number_of : {A : Type 0} → Result A ShortHeader → ℕ
number_of (Ok x) = 0
number_of (Err e) = sixteen

-- its values: the number that is read, and none of a helper that sets
abbrev pub values_of : Result ℕ ShortHeader → List ℕ
values_of (Ok n) = n ∷ []
values_of (Err e) = []

abbrev pub values_of_put : Result Unit ShortHeader → List ℕ
values_of_put (Ok x) = []
values_of_put (Err e) = []

-- a field of the header at the front
unfoldable pub got : (Header → ℕ) → List ℕ → Result ℕ ShortHeader
got field s = pick (ltb (length s) 24) (Err under_24) (Ok (field (header_at s 0)))

-- what a helper that reads promises of its answer r
pub record Got (field : Header → ℕ) (s : List ℕ) (r : Result ℕ ShortHeader) : Type 0 where
  pub answer : r ≡ got field s
  pub refusal : number_of r ≡ short_header s
  pub values : values_of r ≡ pick (ltb (length s) 24) [] (field (header_at s 0) ∷ [])

-- the bytes of conv at the front, and every other byte as it was; "all as it was" where refused
unfoldable pub with_conv : List ℕ → ℕ → List ℕ
with_conv s conv = pick (ltb (length s) 24) s (le_bytes 4 conv ++ drop 4 s)

unfoldable pub put_of : List ℕ → Result Unit ShortHeader
put_of s = pick (ltb (length s) 24) (Err under_24) (Ok tt)

-- what `set_conv` promises of its answer r and of the bytes afterwards
pub record ConvSet (s : List ℕ) (conv : ℕ) (r : Result Unit ShortHeader) (after : List ℕ) : Type 0 where
  pub answer : r ≡ put_of s
  pub refusal : number_of r ≡ short_header s
  pub values : values_of_put r ≡ []
  pub bytes : after ≡ with_conv s conv
