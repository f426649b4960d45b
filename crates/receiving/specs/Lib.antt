pub mod Rules
pub mod History
pub mod Examples
