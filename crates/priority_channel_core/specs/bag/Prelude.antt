-- The names that contracts and proofs cite, passed on from one place. Declares nothing.
pub use Rattle.priority_channel_core.specs.bag.Bag.{Contents, Keeps, search_for_least}
unfoldable pub use Rattle.priority_channel_core.specs.bag.ByKey.{by_key, put_in}
pub use Rattle.priority_channel_core.specs.bag.Changing.{Changes, PassesFirst}
unfoldable pub use Rattle.priority_channel_core.specs.bag.Digits.{digits}
pub use Rattle.priority_channel_core.specs.bag.Greatest.{PassesGreatest, TakesGreatest}
pub use Rattle.priority_channel_core.specs.bag.Heap.{IsOrdered, MendsAt}
pub use Rattle.priority_channel_core.specs.bag.IntervalHeap.{AtMostTooGreat, AtMostTooSmall, FallsTo, high, InOrderBut, IsIntervalHeap, IsLeastAt, IsOver, low, own_low}
unfoldable pub use Rattle.priority_channel_core.specs.bag.IntervalHeap.{IsIntervalHeapWithin}
pub use Rattle.priority_channel_core.specs.bag.Items.{first_number, in_order_of_numbers, item_cmp, pair_of, same_number}
pub use Rattle.priority_channel_core.specs.bag.Kept.{IsKept}
pub use Rattle.priority_channel_core.specs.bag.Least.{Displaces, NoneBelow, TakesLeast}
pub use Rattle.priority_channel_core.specs.bag.Taking.{TakesAll, TakesOne}
pub use Rattle.priority_channel_core.specs.bag.Tests.{Counts, Folds, Tells}
pub use Rattle.priority_channel_core.specs.declared.item.Item.{Item}
pub use Rattle.std.specs.declared.cmp.Ordering.{Ordering}
