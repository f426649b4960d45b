pub mod Packer
pub mod Acks
pub mod FlushAck
pub mod Front
pub mod Examples
