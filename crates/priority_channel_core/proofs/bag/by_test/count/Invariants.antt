use Rattle.std.proofs.Common.{◌≤◌, ◌+◌, ℕ, true, false, drop}
use Rattle.priority_channel_core.specs.bag.Prelude.{pair_of, Counts, Tells, Item}
use Rattle.priority_channel_core.proofs.bag.by_test.count.Given as goal

abbrev pub invariant-loop-at : goal.invariant-loop-at
invariant-loop-at g l =
    let passes : Item g.row.T.Denot g.row.P.Denot → Type 0 = (λ item. Tells g.F.Fn l.fn.test (pair_of item) true) in
    let fails : Item g.row.T.Denot g.row.P.Denot → Type 0 = (λ item. Tells g.F.Fn l.fn.test (pair_of item) false) in
    (l.count ≤ l.at) × ((n : ℕ) → Counts passes fails (drop l.at l.items) n → Counts passes fails l.items (l.count + n))
