-- `Held` has how many segments are held, `Judging` the verdict and the loop over the recording.
pub mod Held
pub mod Judging
