use Rattle.std.proofs.Common.{◌++◌, slice_set, sym, ◌∙◌, arith}
use Rattle.std.proofs.lemmas.List.Sorted.{IsPermutation-swap}
use Rattle.priority_channel_core.proofs.items.Exchange.{exchanged, same_item}
use Rattle.priority_channel_core.proofs.bag.binary_heap.exchange.Goals as goal

pub returns-clause-after : goal.returns-clause-after
returns-clause-after g c =
    let parts = c.split_at_mut-front.result in
    let cut = c.split_at_mut-front.ensures in
    let lower = same_item _ _ c.swap.ensures.x_after c.swap-2.ensures.x_after c.swap-3.ensures.x_after ∙ sym c.index-back-0.is in
    let higher = same_item _ _ c.swap.ensures.y_after c.swap-2.ensures.y_after c.swap-3.ensures.y_after ∙ sym c.index-front-low.is in
    (λ i. slice_set parts.0.now c.args.low (lower i) ++ slice_set parts.1.now 0 (higher i))
    ∙ exchanged c.args.items.now parts.0.now parts.1.now c.args.low c.args.high _ _ cut.value cut.front_len c.requires.0 c.requires.1 c.index-front-low.is c.index-back-0.is

pub returns-clause-permutation : goal.returns-clause-permutation
returns-clause-permutation g c = IsPermutation-swap c.args.items.now _ c.args.low c.args.high (omega arith) (omega arith) (returns-clause-after g c)
