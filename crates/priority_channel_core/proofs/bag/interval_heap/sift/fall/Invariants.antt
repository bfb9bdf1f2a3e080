use Rattle.std.proofs.Common.{◌≡◌, ◌+◌, ◌-◌, ◌/◌, ◌<◌, ◌≤◌, length, IsPermutation}
use Rattle.priority_channel_core.specs.bag.Prelude.{digits, item_cmp, InOrderBut}
use Rattle.priority_channel_core.proofs.bag.interval_heap.sift.fall.Given as goal

abbrev pub invariant-loop-at : goal.invariant-loop-at
invariant-loop-at g l = record {
  long : length l.items ≡ length l.initial.items;
  within : l.at < length l.items;
  moves : IsPermutation l.initial.items l.items;
  order : InOrderBut (item_cmp g.P.Ord.cmp) l.initial.items l.fn.at → InOrderBut (item_cmp g.P.Ord.cmp) l.items l.at;
  cost : l.comparisons.count + 1 ≤ l.initial.comparisons.count + digits (l.at / 2 + 1);
}

abbrev pub decreases-loop-at : goal.decreases-loop-at
decreases-loop-at g l = length l.items - l.at
