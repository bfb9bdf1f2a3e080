-- Runs of the same calls, from states that are the same except for clones of wakers.
pub mod Calls
pub mod Changes
pub mod Evicting
pub mod Lists
pub mod Polls
pub mod Steps
