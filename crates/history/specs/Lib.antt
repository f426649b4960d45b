pub mod Pushes
pub mod Calls
pub mod History
