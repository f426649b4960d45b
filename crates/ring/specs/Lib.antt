pub mod Lists
pub mod Sequences
pub mod Records
pub mod Places
pub mod Counting
