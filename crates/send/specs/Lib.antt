pub mod Memory
pub mod Whole
pub mod Examples
