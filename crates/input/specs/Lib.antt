pub mod Segment
pub mod Datagram
pub mod Examples
