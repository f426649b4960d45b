-- `Places` has the places of a ring's indices: that no two are one, and that they are one run, or two; `Rows` what reading and writing a row is; `Walks`
-- one law for both walks that renew rows; `Seen` that the memory functions do to the memory what the rules do to what is seen of it; `Out` the same of
-- what goes out, is counted and is waited for; `Idle` that what does not go out changes nothing; `Steps` what the functions find and leave.
pub mod Places
pub mod Rows
pub mod Walks
pub mod Seen
pub mod Out
pub mod Idle
pub mod Steps
