pub mod LittleEndian
pub mod RoundTrip
pub mod Commands
pub mod Helpers
