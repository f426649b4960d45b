pub mod Windows
pub mod Probing
pub mod Due
pub mod Clocks
pub mod Pack
pub mod Pieces
pub mod Rules
pub mod Examples
