use Rattle.std.proofs.Common.{◌+◌, ◌/◌, true, false, arith}
use Rattle.std.proofs.lemmas.List.Sorted.{IsPermutation-trans}
use Rattle.priority_channel_core.specs.bag.Prelude.{item_cmp}
use Rattle.priority_channel_core.proofs.items.Digits.{digits-mono}
use Rattle.priority_channel_core.proofs.items.ItemOrder.{item_total, compared}
use Rattle.priority_channel_core.proofs.items.IntervalHeaps.{goes_low, stays_high}
use Rattle.priority_channel_core.proofs.bag.interval_heap.sift.settle_high.Goals as goal

pub returns-then-is_lt-clause-moves : goal.returns-then-is_lt-clause-moves
returns-then-is_lt-clause-moves g c = IsPermutation-trans _ _ _ c.swap.ensures.permutation c.rise.ensures.moves

pub returns-then-is_lt-clause-order : goal.returns-then-is_lt-clause-order
returns-then-is_lt-clause-order g c = λ w.
    c.rise.ensures.low c.requires.sides.1
    (goes_low _ (item_total g.met.P.Ord.total) _ _ _ _ c.requires.within.1 c.swap.ensures.len c.swap.ensures.by_index c.requires.over.1 c.requires.facing
    (compared (item_cmp g.P.Ord.cmp) c.args.items.now c.args.high c.args.low _ _ _ true c.requires.within.0 c.requires.within.1 c.index-items-high.is c.index-items-low.is c.compare.ensures.order c.if-is_lt.ensures) w)

pub returns-then-is_lt-clause-cost : goal.returns-then-is_lt-clause-cost
returns-then-is_lt-clause-cost g c = omega (arith, digits-mono (c.args.low / 2 + 1) (c.args.high / 2 + 1) (omega arith))

pub returns-else-is_lt-clause-order : goal.returns-else-is_lt-clause-order
returns-else-is_lt-clause-order g c = λ w.
    c.rise-else-is_lt.ensures.high c.requires.sides.0
    (stays_high _ (item_total g.met.P.Ord.total) _ _ _ c.requires.within.1 c.requires.over.1 c.requires.facing
    (compared (item_cmp g.P.Ord.cmp) c.args.items.now c.args.high c.args.low _ _ _ false c.requires.within.0 c.requires.within.1 c.index-items-high.is c.index-items-low.is c.compare.ensures.order c.if-is_lt.ensures) w)
