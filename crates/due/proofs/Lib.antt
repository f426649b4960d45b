-- `Sizing` has the laws of the size pass, `Writing` those of the write pass, `Agree` that the two agree.
pub mod Sizing
pub mod Writing
pub mod Agree
