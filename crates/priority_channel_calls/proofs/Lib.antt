pub mod Chosen
pub mod Fronts
pub mod Runs
pub mod Tails
