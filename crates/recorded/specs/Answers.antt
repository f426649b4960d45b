-- What a call answers, as the numbers of a step: "the refusal's number, 0 where the call is not refused", "the refusal's values; of a call that is not
-- refused the number that it answers; of flush_ack, flush and update how many datagrams went out, and the sum of their lengths' list", and "the sum of what
-- comes out". Assumes nothing.
use Rattle.std.specs.Prelude.{ℕ, Result, Ok, Err}
use Rattle.block.specs.declared.refusal.Refusal.{Refusal}
use Rattle.block.specs.declared.refusal.Refusal.TheVariants.{ShortHeader as ShortOne}
use Rattle.block.specs.Refusals.{number_of, values_of, row_of}
use Rattle.recorded.specs.declared.answers.Answer.{Answer}
use Rattle.wire.specs.declared.ShortHeader.{ShortHeader}

-- n is answered
abbrev pub told : ℕ → ℕ → Answer
told n sum = record { refusal = 0; first = n; second = 0; sum = sum }

unfoldable pub refused_by : Refusal → ℕ → Answer
refused_by why sum = record { refusal = number_of why; first = (row_of (values_of why)).first; second = (row_of (values_of why)).second; sum = sum }

-- a call that cannot be made: no refusal has this number
abbrev pub unknown : Answer
unknown = record { refusal = 4294967295; first = 0; second = 0; sum = 0 }

-- f of what is answered, or the refusal
abbrev pub answered : {T : Type 0} → (T → ℕ) → Result T Refusal → ℕ → Answer
answered f (Ok x) sum = told (f x) sum
answered f (Err why) sum = refused_by why sum

-- of a call that answers nothing, and of one that counts
abbrev pub of_done : Result Unit Refusal → ℕ → Answer
of_done = answered (λ x. 0)

abbrev pub of_count : Result ℕ Refusal → ℕ → Answer
of_count = answered (λ n. n)

-- a header helper's refusal is the last of the sixteen
abbrev pub as_refusal : {T : Type 0} → Result T ShortHeader → Result T Refusal
as_refusal (Ok x) = Ok x
as_refusal (Err e) = Err ShortOne

abbrev pub of_out : Result Unit Refusal → ℕ → ℕ → ℕ → Answer
of_out (Ok x) datagrams lengths sum = record { refusal = 0; first = datagrams; second = lengths; sum = sum }
of_out (Err why) datagrams lengths sum = refused_by why sum
