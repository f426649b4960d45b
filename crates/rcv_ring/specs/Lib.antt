pub mod Words
pub mod Places
pub mod Moves
pub mod Views
pub mod Examples
