use Rattle.std.proofs.Common.{◌≡◌, ◌+◌, ◌/◌, ◌%◌, ◌<◌, ◌≤◌, length, IsPermutation}
use Rattle.priority_channel_core.specs.bag.Prelude.{digits, item_cmp, AtMostTooGreat, AtMostTooSmall}
use Rattle.priority_channel_core.proofs.bag.interval_heap.sift.rise.Given as goal

abbrev pub invariant-loop-at : goal.invariant-loop-at
invariant-loop-at g l = record {
  long : length l.items ≡ length l.initial.items;
  within : l.at < length l.items;
  side : l.at % 2 ≡ l.fn.at % 2;
  moves : IsPermutation l.initial.items l.items;
  high : l.at % 2 ≡ 0 → AtMostTooGreat (item_cmp g.P.Ord.cmp) l.initial.items l.fn.at → AtMostTooGreat (item_cmp g.P.Ord.cmp) l.items l.at;
  low : l.at % 2 ≡ 1 → AtMostTooSmall (item_cmp g.P.Ord.cmp) l.initial.items l.fn.at → AtMostTooSmall (item_cmp g.P.Ord.cmp) l.items l.at;
  cost : l.comparisons.count + digits (l.at / 2 + 1) ≤ l.initial.comparisons.count + digits (l.fn.at / 2 + 1);
}

abbrev pub decreases-loop-at : goal.decreases-loop-at
decreases-loop-at g l = l.at
