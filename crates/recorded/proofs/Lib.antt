-- `Zeros` has the buffers of zeros, `Loops` the loops over numbers and bytes, `Branches` a choice by an order of numbers, `Whole` whether a whole step is
-- left; `Looking` and `Making` the steps of the calls.
pub mod Zeros
pub mod Loops
pub mod Branches
pub mod Whole
pub mod Looking
pub mod Making
