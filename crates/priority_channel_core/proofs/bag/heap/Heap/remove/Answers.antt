use Rattle.std.proofs.Common.{◌∷◌, ◌≤◌, length, arith, sym, subst, IsPermutation}
use Rattle.std.proofs.lemmas.List.Sorted.{IsPermutation-trans, IsPermutation-cons, IsPermutation-swap_remove}
use Rattle.priority_channel_core.specs.bag.Prelude.{item_cmp}
use Rattle.priority_channel_core.proofs.items.Digits.{digits-mono}
use Rattle.priority_channel_core.proofs.items.ItemOrder.{item_total}
use Rattle.priority_channel_core.proofs.items.Ordered.{removed}
use Rattle.priority_channel_core.proofs.bag.heap.Heap.remove.Goals as goal

pub returns-clause-moves : goal.returns-clause-moves
returns-clause-moves g c =
    let xs = c.args.self.now.items.items in
    let out = c.swap_remove-item in
    IsPermutation-trans xs (out.result ∷ out.new.self.items) _
    (subst (λ l. IsPermutation xs (out.result ∷ l)) (sym out.ensures.items) (IsPermutation-swap_remove xs c.args.at out.result c.requires out.ensures.value))
    (IsPermutation-cons out.result out.new.self.items _ c.mend.ensures.moves)

pub returns-clause-order : goal.returns-clause-order
returns-clause-order g c = λ w.
    let out = c.swap_remove-item in
    rw c.mend.ensures.ends
    (removed (item_cmp g.P.Ord.cmp) (item_total g.met.P.Ord.total) c.args.self.now.has_two_ends c.args.self.now.items.items _ _ c.args.at out.result c.requires out.ensures.value out.ensures.items c.mend.ensures.order w)

pub returns-clause-cost : goal.returns-clause-cost
returns-clause-cost g c =
    let n = length c.args.self.now.items.items in
    let long = c.args.self.now.items.ok in
    let less : length c.swap_remove-item.new.self.items ≤ n = omega (arith, c.swap_remove-item.ensures.len, c.swap_remove-item.new.self.ok) in
    omega (arith, c.mend.ensures.cost, digits-mono _ n less)
