use Rattle.std.proofs.Common.{map, drop}
use Rattle.std.specs.List.{FoldsTo}
use Rattle.priority_channel_core.specs.bag.Prelude.{pair_of, Folds}
use Rattle.priority_channel_core.proofs.bag.by_test.fold.Given as goal

abbrev pub invariant-loop-at : goal.invariant-loop-at
invariant-loop-at g l =
    (last : g.row.X.Denot) → FoldsTo (Folds g.F.Fn l.fn.step) l.folded (map pair_of (drop l.at l.items)) last
    → FoldsTo (Folds g.F.Fn l.fn.step) l.fn.init (map pair_of l.items) last
