use Rattle.std.proofs.Common.{arith}
use Rattle.priority_channel_core.specs.bag.Prelude.{item_cmp}
use Rattle.priority_channel_core.proofs.items.ItemOrder.{item_total}
use Rattle.priority_channel_core.proofs.items.IntervalHeaps.{falls_high, falls_low}
use Rattle.priority_channel_core.proofs.bag.interval_heap.sift.child_of.Goals as goal

pub returns-then-at-eq0-clause-order : goal.returns-then-at-eq0-clause-order
returns-then-at-eq0-clause-order g c = λ ys long sw w.
    let to = c.greater_child.ensures in
    falls_high (item_cmp g.P.Ord.cmp) (item_total g.met.P.Ord.total) c.args.items.now c.args.at _ w to.within ys long sw
    (omega arith) to.child.0 to.child.1 to.child.2 to.left to.right

pub returns-else-at-eq0-clause-order : goal.returns-else-at-eq0-clause-order
returns-else-at-eq0-clause-order g c = λ ys long sw w.
    let to = c.lesser_child.ensures in
    falls_low (item_cmp g.P.Ord.cmp) (item_total g.met.P.Ord.total) c.args.items.now c.args.at _ w to.within ys long sw
    (omega arith) to.child.0 to.child.1 to.left to.right
