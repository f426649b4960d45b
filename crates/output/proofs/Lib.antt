pub mod AckFlush
pub mod Found
mod Sizes
mod Rears
mod Whole
mod Still
mod Flushes
pub mod Updates
pub mod Keeps
