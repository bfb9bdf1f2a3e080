pub mod Handles
pub mod Batches
pub mod Lending
