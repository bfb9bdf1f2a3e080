use Rattle.std.proofs.Common.{◌≡◌, ◌+◌, ◌*◌, ◌≤◌, length, take, vec_capacity, IsPermutation}
use Rattle.priority_channel_core.specs.bag.Prelude.{digits, item_cmp, IsOrdered}
use Rattle.priority_channel_core.proofs.bag.heap.Heap.arrange.Given as goal

abbrev pub invariant-loop-last : goal.invariant-loop-last
invariant-loop-last g l = record {
  long : length l.self.items.items ≡ length l.initial.self.items.items;
  moves : IsPermutation l.initial.self.items.items l.self.items.items;
  order : IsOrdered (item_cmp g.P.Ord.cmp) l.self.has_two_ends (take l.last l.self.items.items);
  slots : vec_capacity l.self.items ≡ vec_capacity l.initial.self.items;
  ends : l.self.has_two_ends ≡ l.initial.self.has_two_ends;
  cost : l.self.comparisons.count ≤ l.initial.self.comparisons.count + l.last * digits (length l.initial.self.items.items);
}
