-- `Spans` has the laws of what is read index by index, `Words` those of a slot's word and of words set and cleared, `Tests` says that the test is true
-- exactly where the words are as they have to be; `Steps`, `Stores` and `Copies` say what each call changes or reads of the queue and of what is held,
-- `Keeps` that it keeps the ring sound.
pub mod Spans
pub mod Words
pub mod Tests
pub mod Steps
pub mod Stores
pub mod Keeps
pub mod Copies
