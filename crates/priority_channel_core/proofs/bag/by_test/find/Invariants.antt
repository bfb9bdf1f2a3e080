use Rattle.std.proofs.Common.{◌<◌, ℕ, false, slice_index_or}
use Rattle.priority_channel_core.specs.bag.Prelude.{pair_of, Tells, Item}
use Rattle.priority_channel_core.proofs.bag.by_test.find.Given as goal

abbrev pub invariant-loop-at : goal.invariant-loop-at
invariant-loop-at g l =
    (k : ℕ) (d : Item g.row.T.Denot g.row.P.Denot) → k < l.at → Tells g.F.Fn l.fn.test (pair_of (slice_index_or l.items k d)) false
