use Rattle.std.proofs.Common.{◌≡◌, ◌+◌, ◌-◌, ◌<◌, ◌≤◌, length, set, IsPermutation}
use Rattle.std.specs.BinaryHeap.{IsHeap, lt_by_cmp}
use Rattle.std.specs.BinaryHeap.Sift.{IsHeapWithHole}
use Rattle.priority_channel_core.specs.bag.Prelude.{digits, item_cmp, Item}
use Rattle.priority_channel_core.proofs.bag.binary_heap.sink_by.Given as goal

abbrev pub invariant-loop-at : goal.invariant-loop-at
invariant-loop-at g l = record {
  long : length l.items ≡ length l.initial.items;
  within : l.at < length l.items;
  moves : IsPermutation l.initial.items l.items;
  hole : (x : Item g.row.T.Denot g.row.P.Denot) → IsHeap (item_cmp g.P.Ord.cmp) (set l.initial.items l.fn.at x)
      → IsHeapWithHole (lt_by_cmp (item_cmp g.P.Ord.cmp)) l.items l.at (length l.items);
  cost : l.comparisons.count ≤ l.initial.comparisons.count + digits l.at;
}

abbrev pub decreases-loop-at : goal.decreases-loop-at
decreases-loop-at g l = length l.items - l.at
