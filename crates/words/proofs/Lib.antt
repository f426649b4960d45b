-- `Tests` has which words are a block's, `Writing` what a write of all leaves, `Back` that reading gives back what was written and the other way round,
-- and what each write of some words leaves.
pub mod Tests
pub mod Writing
pub mod Back
