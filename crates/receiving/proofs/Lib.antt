-- `Laws` has what a move and a store do to the held segments' order and places, `Keep` that every event leaves a well-formed receive side
pub mod Laws
pub mod Keep
pub mod Theorem
