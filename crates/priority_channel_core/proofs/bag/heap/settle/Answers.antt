use Rattle.std.proofs.Common.{◌-◌, length, arith}
use Rattle.std.proofs.lemmas.List.Sorted.{length_permutation}
use Rattle.priority_channel_core.proofs.items.ItemOrder.{item_total}
use Rattle.priority_channel_core.proofs.items.Ordered.{risen, settled}
use Rattle.priority_channel_core.proofs.bag.heap.settle.Goals as goal

pub returns-then-has_two_ends-clause-order : goal.returns-then-has_two_ends-clause-order
returns-then-has_two_ends-clause-order g c = λ w.
    rw c.if-has_two_ends.true (settled _ (item_total g.met.P.Ord.total) _ _ c.requires c.settle.ensures.order (rw c.if-has_two_ends.true at w))

pub returns-else-has_two_ends-clause-order : goal.returns-else-has_two_ends-clause-order
returns-else-has_two_ends-clause-order g c = λ w.
    rw c.if-has_two_ends.false
    (risen _ (item_total g.met.P.Ord.total) _ _ (length c.args.items.now - 1) (omega (arith, c.requires)) (length_permutation _ _ c.rise.ensures.moves) c.rise.ensures.order
    (rw c.if-has_two_ends.false at w))
