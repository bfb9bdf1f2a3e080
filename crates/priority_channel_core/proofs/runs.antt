-- What calls accept, receive and leave pending.
pub mod Changes
pub mod Done
pub mod Hands
pub mod Effects
pub mod Places
pub mod Runs
