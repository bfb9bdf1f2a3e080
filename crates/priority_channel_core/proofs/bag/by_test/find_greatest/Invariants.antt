use Rattle.std.proofs.Common.{◌≡◌, ◌≤◌, ◌+◌, true, false, is_gt}
use Rattle.priority_channel_core.specs.bag.Prelude.{item_cmp, pair_of, Tells}
use Rattle.priority_channel_core.proofs.items.Firsts.{FoundWithin}
use Rattle.priority_channel_core.proofs.bag.by_test.find_greatest.Given as goal

abbrev pub invariant-loop-at : goal.invariant-loop-at
invariant-loop-at g l =
    FoundWithin (λ item. Tells g.F.Fn l.fn.test (pair_of item) true) (λ item. Tells g.F.Fn l.fn.test (pair_of item) false)
    (λ x y. is_gt (item_cmp g.P.Ord.cmp x y) ≡ true) l.items l.at l.greatest
    × (l.comparisons.count ≤ l.fn.comparisons.count + l.at)
