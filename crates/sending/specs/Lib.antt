pub mod Rules
pub mod Flights
pub mod Send
pub mod Examples
