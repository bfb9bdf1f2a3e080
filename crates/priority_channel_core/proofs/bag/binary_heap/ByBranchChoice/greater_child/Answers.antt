use Rattle.std.proofs.Common.{◌+◌, ◌*◌, length, true, false, arith, refl, subst, add-zero}
use Rattle.std.specs.BinaryHeap.Sift.{IsGreaterChild}
use Rattle.std.proofs.HeapSift as heap
use Rattle.priority_channel_core.specs.bag.Prelude.{item_cmp}
use Rattle.priority_channel_core.proofs.items.ItemOrder.{item_total, compared}
use Rattle.priority_channel_core.proofs.bag.binary_heap.ByBranchChoice.greater_child.Goals as goal

pub returns-then-right-items-clause-best : goal.returns-then-right-items-clause-best
returns-then-right-items-clause-best g c =
    heap.only_child (item_cmp g.P.Ord.cmp) (item_total g.met.P.Ord.total) _ c.args.at _ _ refl (omega arith)

pub returns-then-is_lt-clause-best : goal.returns-then-is_lt-clause-best
returns-then-is_lt-clause-best g c =
    let R = item_cmp {T = g.row.T.Denot} g.P.Ord.cmp in
    let xs = c.args.items.now in
    let left = c.args.at * 2 + 1 in
    let is = compared R xs (left + 1) left _ _ _ true (omega arith) (omega arith) c.index-items-right.is c.index-items-left.is c.compare.ensures.order c.if-is_lt.ensures in
    subst (λ k. IsGreaterChild R xs c.args.at k (length xs)) (add-zero left)
    (heap.either_child R (item_total g.met.P.Ord.total) xs c.args.at left _ true refl is).1

pub returns-else-is_lt-clause-best : goal.returns-else-is_lt-clause-best
returns-else-is_lt-clause-best g c =
    let R = item_cmp {T = g.row.T.Denot} g.P.Ord.cmp in
    let xs = c.args.items.now in
    let left = c.args.at * 2 + 1 in
    let is = compared R xs (left + 1) left _ _ _ false (omega arith) (omega arith) c.index-items-right.is c.index-items-left.is c.compare.ensures.order c.if-is_lt.ensures in
    (heap.either_child R (item_total g.met.P.Ord.total) xs c.args.at left _ false refl is).1
