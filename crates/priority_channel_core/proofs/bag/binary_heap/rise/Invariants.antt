use Rattle.std.proofs.Common.{◌≡◌, ◌+◌, ◌≤◌, length, IsPermutation}
use Rattle.std.proofs.HeapSift as heap
use Rattle.priority_channel_core.specs.bag.Prelude.{digits, item_cmp}
use Rattle.priority_channel_core.proofs.items.ItemOrder.{item_total}
use Rattle.priority_channel_core.proofs.bag.binary_heap.rise.Given as goal

abbrev pub invariant-loop-at : goal.invariant-loop-at
invariant-loop-at g l = record {
  long : length l.items ≡ length l.initial.items;
  below : l.at ≤ l.fn.at;
  moves : IsPermutation l.initial.items l.items;
  order : heap.Rising (item_cmp g.P.Ord.cmp) (item_total g.met.P.Ord.total) l.initial.items l.fn.at l.items l.at;
  cost : l.comparisons.count + digits (l.at + 1) ≤ l.initial.comparisons.count + digits (l.fn.at + 1);
}

abbrev pub decreases-loop-at : goal.decreases-loop-at
decreases-loop-at g l = l.at
