-- `Numbers` has the numbers in flight, as the loops over the indices meet them, and the search; `Run` the same over runs of places; `Seen` that una, acks and fastack do to the memory what the
-- rules do to what is seen of it; `Exact` that the test of the memory is its facts, and that they are kept; `Steps` what the functions find and leave; `Portions` that fastack over portions of places is the
-- walk over the indices in flight.
pub mod Numbers
mod Run
pub mod Seen
pub mod Exact
pub mod Steps
mod Portions
