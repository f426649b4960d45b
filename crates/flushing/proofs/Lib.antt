pub mod Choices
pub mod Leaving
pub mod Far
pub mod Packing
pub mod Calls
pub mod Waits
pub mod Bits
