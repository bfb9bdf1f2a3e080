use Rattle.priority_channel_core.specs.bag.Prelude.{item_cmp}
use Rattle.priority_channel_core.proofs.items.ItemOrder.{item_total}
use Rattle.priority_channel_core.proofs.items.Kept.{kept_without, length_in_order, takes_greatest}
use Rattle.priority_channel_core.proofs.items.Ordered.{greatest_first}
use Rattle.priority_channel_core.proofs.bag.Bag.pop.Goals as goal

pub invariant_of-self : goal.invariant_of-self
invariant_of-self g c =
    let was = c.self.invariant in
    let r = c.remove in
    kept_without g.met.P.Ord.total c.self.inside.heap.items.items r.new.self.items.items r.result was.apart r.ensures.moves _ was.numbered r.new.self.has_two_ends (r.ensures.order was.order)

pub returns-clause-taken : goal.returns-clause-taken
returns-clause-taken g c =
    let was = c.self.invariant in
    let r = c.remove in
    let xs = c.self.inside.heap.items.items in
    rw (← c.self.view_is, c.into_pair.ensures)
    (takes_greatest g.met.P.Ord.total xs r.new.self.items.items r.result was.apart r.ensures.moves
    (greatest_first (item_cmp g.P.Ord.cmp) (item_total g.met.P.Ord.total) c.self.inside.heap.has_two_ends xs r.result r.ensures.item was.order))

pub returns-clause-cost : goal.returns-clause-cost
returns-clause-cost g c = rw (← c.self.view_is, length_in_order) c.remove.ensures.cost
