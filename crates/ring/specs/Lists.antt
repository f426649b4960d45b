-- The two lists that each side is lent: numbers, its records, and bytes, its room of 1,476 for each slot. Assumes nothing.
use Rattle.std.specs.Prelude.{ℕ, List}

pub record Lists : Type 0 where
  pub records : List ℕ
  pub room : List ℕ

abbrev pub lists : List ℕ → List ℕ → Lists
lists k b = record { records = k; room = b }
