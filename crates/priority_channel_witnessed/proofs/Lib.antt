pub mod Histories
pub mod Items
pub mod Leaving
pub mod Steps
pub mod Waits
