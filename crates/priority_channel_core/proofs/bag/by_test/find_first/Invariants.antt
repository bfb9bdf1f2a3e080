use Rattle.std.proofs.Common.{◌<◌, true, false}
use Rattle.priority_channel_core.specs.bag.Prelude.{pair_of, Tells}
use Rattle.priority_channel_core.proofs.items.Firsts.{FoundWithin}
use Rattle.priority_channel_core.proofs.bag.by_test.find_first.Given as goal

abbrev pub invariant-loop-at : goal.invariant-loop-at
invariant-loop-at g l =
    FoundWithin (λ item. Tells g.F.Fn l.fn.test (pair_of item) true) (λ item. Tells g.F.Fn l.fn.test (pair_of item) false) (λ x y. x.number < y.number) l.items l.at l.first
