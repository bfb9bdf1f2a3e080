use Rattle.std.proofs.Common.{true, false, sym, subst, slice_set}
use Rattle.priority_channel_core.specs.bag.Prelude.{item_cmp, IsOrdered}
use Rattle.priority_channel_core.proofs.items.Kept.{arranged_back}
use Rattle.priority_channel_core.proofs.bag.heap.Heap.mend.Goals as goal

pub returns-then-self-clause-order : goal.returns-then-self-clause-order
returns-then-self-clause-order g c = λ x w.
    let before = c.args.self.now.items in
    let slice = c.as_mut_slice.ensures in
    rw (arranged_back _ c.mend.new.items before.items before.len c.mend.ensures.moves slice.len, c.if-self.true)
    (c.mend.ensures.order x (subst (λ l. IsOrdered (item_cmp g.P.Ord.cmp) true (slice_set l c.args.at x)) (sym slice.value) (rw c.if-self.true at w)))

pub returns-else-self-clause-order : goal.returns-else-self-clause-order
returns-else-self-clause-order g c = λ x w.
    let before = c.args.self.now.items in
    let slice = c.as_mut_slice-else-self.ensures in
    rw (arranged_back _ c.sink.new.items before.items before.len c.sink.ensures.moves slice.len, c.if-self.false)
    (c.sink.ensures.order x (subst (λ l. IsOrdered (item_cmp g.P.Ord.cmp) false (slice_set l c.args.at x)) (sym slice.value) (rw c.if-self.false at w)))
