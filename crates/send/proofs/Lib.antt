-- `Numbers` has the laws of the counts and the verdict, `Spaces` what making room keeps, `Queues` what the new segments leave, `Steps` what the steps
-- of the code ask and leave, `Sends` a send by cases, `Seen` the law between the memory function and the rule, `Twelve` when 12 is given, `Whole`
-- that no byte is lost, and `Keep` that what is sound and fits before a send is so after it.
pub mod Numbers
pub mod Spaces
pub mod Queues
pub mod Steps
pub mod Sends
pub mod Seen
pub mod Twelve
pub mod Whole
pub mod Keep
