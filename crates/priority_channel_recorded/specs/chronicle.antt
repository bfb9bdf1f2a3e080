-- Histories of any kind of entry.
pub mod Log
pub mod Passes
