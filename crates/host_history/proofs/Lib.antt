pub mod Exports
pub mod History
