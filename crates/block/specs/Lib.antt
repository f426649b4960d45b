pub mod Refusals
pub mod Parts
pub mod Sizes
pub mod Fresh
pub mod WellFormed
pub mod Setters
