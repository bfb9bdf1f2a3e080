use Rattle.std.proofs.Common.{true, false, List, subst}
use Rattle.priority_channel_core.specs.bag.Prelude.{pair_of, by_key, Counts, Tells, Item}
use Rattle.priority_channel_core.proofs.items.Counts.{counts_by_key, counts_map}
use Rattle.priority_channel_core.proofs.bag.Bag.count_where.Goals as goal

pub returns : goal.returns
returns g c =
    let passes : g.row.T.Denot × g.row.P.Denot → Type 0 = (λ pair. Tells g.F.Fn c.args.test.now pair true) in
    let fails : g.row.T.Denot × g.row.P.Denot → Type 0 = (λ pair. Tells g.F.Fn c.args.test.now pair false) in
    let xs = c.self.inside.heap.items.items in
    let stored = subst (λ (ys : List (Item g.row.T.Denot g.row.P.Denot)). Counts (λ item. passes (pair_of item)) (λ item. fails (pair_of item)) ys c.count.result) c.as_slice.ensures.value c.count.ensures in
    rw (← c.self.view_is)
    (counts_map passes fails pair_of (by_key (λ x. x.number) xs) _ (counts_by_key (λ item. passes (pair_of item)) (λ item. fails (pair_of item)) (λ x. x.number) xs _ stored))
