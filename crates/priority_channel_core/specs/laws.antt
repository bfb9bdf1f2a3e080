-- What follows from the machine for every run.
pub mod Direct
pub mod Accepted
pub mod Places
pub mod Done
pub mod Alike
