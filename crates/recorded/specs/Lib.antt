pub mod Sums
pub mod Rows
pub mod Answers
pub mod Memory
pub mod Looks
pub mod Calls
