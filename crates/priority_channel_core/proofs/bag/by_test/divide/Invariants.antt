use Rattle.std.proofs.Common.{◌≡◌, ◌<◌, ◌≤◌, ℕ, true, false, List, ◌++◌, length, map, slice_index_or, vec_capacity, All, IsPermutation}
use Rattle.priority_channel_core.specs.bag.Prelude.{pair_of, Tells, Item}
use Rattle.priority_channel_core.proofs.bag.by_test.divide.Given as goal

abbrev pub invariant-loop-at : goal.invariant-loop-at
invariant-loop-at g l = record {
  within : l.at ≤ length l.items.items;
  others : List (Item g.row.T.Denot g.row.P.Denot);
  taken : l.out.items ≡ l.initial.out.items ++ map pair_of others;
  moves : IsPermutation l.initial.items.items (others ++ l.items.items);
  refused : All (λ item. Tells g.F.Fn l.fn.test (pair_of item) false) others;
  kept : (k : ℕ) (d : Item g.row.T.Denot g.row.P.Denot) → l.at ≤ k → k < length l.items.items → Tells g.F.Fn l.fn.test (pair_of (slice_index_or l.items.items k d)) true;
  slots : vec_capacity l.items ≡ vec_capacity l.initial.items;
  out_slots : vec_capacity l.out ≡ vec_capacity l.initial.out;
}

abbrev pub decreases-loop-at : goal.decreases-loop-at
decreases-loop-at g l = l.at
