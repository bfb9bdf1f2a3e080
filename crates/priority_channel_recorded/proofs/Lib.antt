pub mod Fronts
pub mod Lines
pub mod Adding
pub mod Accounts
pub mod Fixed
pub mod Histories
