pub mod Memory
pub mod Portions
pub mod Fits
pub mod Examples
