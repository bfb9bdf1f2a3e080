pub mod Refusals
pub mod Rounds
