-- That no queue of waiting threads is left asleep.
pub mod Acts
pub mod Kept
pub mod Runs
pub mod Witness
