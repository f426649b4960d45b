-- How an answer goes to a host that is not Rattle: document 01's number of the refusal, or 0, is returned, and a number that a call
-- answers is put where the host says; a refusal leaves that place as it was. Assumes nothing.
use Rattle.std.specs.Prelude.{ℕ, ◌≡◌, Result, Ok, Err}
use Rattle.wire.specs.Helpers.{number_of}
use Rattle.wire.specs.declared.ShortHeader.{ShortHeader}

-- what stands at the place afterwards
abbrev pub put : Result ℕ ShortHeader → ℕ → ℕ
put (Ok n) before = n
put (Err e) before = before

pub record Answered (answer : Result ℕ ShortHeader) (before r after : ℕ) : Type 0 where
  pub refusal : r ≡ number_of answer
  pub place : after ≡ put answer before
