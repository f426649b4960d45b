-- `Exact` has that the test of block and memory is its facts, and what the walk needs of them; `Inputs` what input promises on each side of its tests.
pub mod Exact
pub mod Inputs
