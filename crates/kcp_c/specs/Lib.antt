pub mod Answered
pub mod Numbers
pub mod Tests
