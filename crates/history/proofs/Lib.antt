-- `Segments` has what input's specs say of one segment, `Rising` that the numbers in flight rise, `Stores` that the send lists and their store are the
-- same, `Fine` what every call keeps; `Walks` what a datagram leaves, `Flushes` what a flush leaves, `Refused` that 15 leaves all, `Memory` that every
-- call keeps what it does and follows its events; `Reading` what is handed out and queued, `History` demand 3.
pub mod Segments
pub mod Rising
pub mod Stores
pub mod Fine
pub mod Walks
pub mod Flushes
pub mod Refused
pub mod Memory
pub mod Reading
pub mod History
