-- The bag of the pending pairs, and how it keeps them.
pub mod Digits
pub mod Greatest
pub mod Least
pub mod Taking
pub mod Changing
pub mod Tests
pub mod IntervalHeap
pub mod Heap
pub mod ByKey
pub mod Items
pub mod Kept
pub mod Bag
pub mod Prelude
