pub mod Together
pub mod Exact
pub mod Signed
pub mod Kept
pub mod Examples
