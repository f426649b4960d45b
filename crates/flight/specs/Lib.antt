pub mod Places
pub mod Memory
pub mod Examples
