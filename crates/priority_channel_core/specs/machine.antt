-- The machine, in reading order.
pub mod State
pub mod Good
pub mod Change
pub mod Sends
pub mod Says
pub mod Polls
pub mod Step
pub mod Run
