use Rattle.std.proofs.Common.{◌+◌, ◌-◌, ◌/◌, true, false, arith}
use Rattle.std.proofs.lemmas.List.Sorted.{IsPermutation-trans}
use Rattle.priority_channel_core.specs.bag.Prelude.{item_cmp, own_low, high}
use Rattle.priority_channel_core.proofs.items.Digits.{digits-mono}
use Rattle.priority_channel_core.proofs.items.ItemOrder.{item_total, compared}
use Rattle.priority_channel_core.proofs.items.IntervalHeaps.{goes_high, stays_low}
use Rattle.priority_channel_core.proofs.bag.interval_heap.sift.settle_low.Goals as goal

pub returns-then-is_lt-clause-moves : goal.returns-then-is_lt-clause-moves
returns-then-is_lt-clause-moves g c = IsPermutation-trans _ _ _ c.swap.ensures.permutation c.rise.ensures.moves

pub returns-then-is_lt-clause-order : goal.returns-then-is_lt-clause-order
returns-then-is_lt-clause-order g c = λ w.
    c.rise.ensures.high (omega arith)
    (goes_high _ (item_total g.met.P.Ord.total) _ _ _ _ (omega arith) c.swap.ensures.len c.swap.ensures.by_index (own_low (omega arith) (omega arith)) (λ a r p u. grind (arith, high))
    (compared (item_cmp g.P.Ord.cmp) c.args.items.now (c.args.low - 1) c.args.low _ _ _ true (omega arith) (omega arith) c.index-items-high.is c.index-items-low.is c.compare.ensures.order c.if-is_lt.ensures) w)

pub returns-then-is_lt-clause-cost : goal.returns-then-is_lt-clause-cost
returns-then-is_lt-clause-cost g c = omega (arith, digits-mono ((c.args.low - 1) / 2 + 1) (c.args.low / 2 + 1) (omega arith))

pub returns-else-is_lt-clause-order : goal.returns-else-is_lt-clause-order
returns-else-is_lt-clause-order g c = λ w.
    c.rise-else-is_lt.ensures.low c.requires.side
    (stays_low _ (item_total g.met.P.Ord.total) _ _ (c.args.low - 1) (omega arith) (own_low (omega arith) (omega arith)) (λ a r p u. grind (arith, high))
    (compared (item_cmp g.P.Ord.cmp) c.args.items.now (c.args.low - 1) c.args.low _ _ _ false (omega arith) (omega arith) c.index-items-high.is c.index-items-low.is c.compare.ensures.order c.if-is_lt.ensures) w)
