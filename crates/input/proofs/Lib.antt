-- `Judging` has the verdict and the adoption of a conv; `Effects` what each kind of segment leaves; `Turns` the laws of the walk; `Sane` what every segment
-- keeps of the memory; `Segments` one segment from the functions that it calls; `Loop` what holds at each turn; `Finish` a datagram from its walk;
-- `Ends` where it ends.
pub mod Judging
pub mod Effects
pub mod Turns
pub mod Sane
pub mod Segments
pub mod Loop
pub mod Finish
pub mod Ends
