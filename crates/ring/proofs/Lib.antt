-- `Sequences` has the laws of `specs/Sequences.antt`, `Rows` those of `specs/Records.antt` over every width, `Places` those of a ring's places and of what
-- is seen along its indices, `Counting` those of the counts.
pub mod Sequences
pub mod Rows
pub mod Places
pub mod Counting
