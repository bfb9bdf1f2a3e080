-- What follows for all futures together, for all threads, and for all that wait for a close.
pub mod World
pub mod WaitingLaw
pub mod Threads
pub mod ThreadEvents
pub mod QueueLaw
