pub mod History
pub mod Items
pub mod Passes
pub mod Uses
pub mod Waits
