pub mod Pass
pub mod Examples
