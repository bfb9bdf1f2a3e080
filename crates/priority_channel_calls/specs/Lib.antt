pub mod Chosen
pub mod Tails
pub mod Told
