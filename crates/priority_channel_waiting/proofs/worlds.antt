-- Worlds of futures, and what each event preserves.
pub mod Callings
pub mod Events
pub mod Lookups
pub mod PollEnds
pub mod Positions
pub mod Standings
pub mod Worlds
