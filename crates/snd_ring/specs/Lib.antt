pub mod Marks
pub mod Store
pub mod Steps
pub mod Examples
