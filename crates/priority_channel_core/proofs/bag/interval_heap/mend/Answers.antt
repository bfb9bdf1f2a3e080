use Rattle.std.proofs.Common.{◌+◌, ◌/◌, length, arith}
use Rattle.std.proofs.lemmas.List.Sorted.{IsPermutation-trans, length_permutation}
use Rattle.priority_channel_core.specs.bag.Prelude.{item_cmp}
use Rattle.priority_channel_core.proofs.items.Digits.{digits-mono}
use Rattle.priority_channel_core.proofs.items.ItemOrder.{item_total}
use Rattle.priority_channel_core.proofs.items.IntervalHeaps.{opens_at}
use Rattle.priority_channel_core.proofs.bag.interval_heap.mend.Goals as goal

pub returns-clause-moves : goal.returns-clause-moves
returns-clause-moves g c = IsPermutation-trans _ _ _ c.fall-bottom.ensures.moves c.settle_at.ensures.moves

pub returns-clause-order : goal.returns-clause-order
returns-clause-order g c = λ x w.
    c.settle_at.ensures.order (c.fall-bottom.ensures.order (opens_at (item_cmp g.P.Ord.cmp) (item_total g.met.P.Ord.total) c.args.items.now c.args.at x c.requires w))

pub returns-clause-cost : goal.returns-clause-cost
returns-clause-cost g c =
    let bottom = c.fall-bottom.result in
    let long = length_permutation _ _ c.fall-bottom.ensures.moves in
    let within = c.fall-bottom.ensures.within in
    omega (arith, digits-mono (bottom / 2 + 1) (length c.args.items.now) (omega arith))
