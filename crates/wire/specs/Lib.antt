pub mod LittleEndian
pub mod Header
pub mod Commands
pub mod Helpers
