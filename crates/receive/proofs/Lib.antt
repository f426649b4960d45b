pub mod Tests
pub mod Numbers
pub mod Seen
pub mod Exact
pub mod Windows
pub mod Fronts
pub mod Pushes
pub mod Bits
