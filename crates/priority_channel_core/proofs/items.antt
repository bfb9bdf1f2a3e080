-- Items in both kinds of heap, and what these give a bag.
pub mod ByKey
pub mod Digits
pub mod Exchange
pub mod Extremes
pub mod ItemOrder
pub mod IntervalHeaps
pub mod BinaryHeaps
pub mod Ordered
pub mod Kept
pub mod Counts
pub mod Firsts
pub mod Changed
