use Rattle.std.proofs.Common.{◌+◌, ◌*◌, arith, refl}
use Rattle.std.proofs.HeapSift as heap
use Rattle.priority_channel_core.specs.bag.Prelude.{item_cmp}
use Rattle.priority_channel_core.proofs.items.ItemOrder.{item_total, compared}
use Rattle.priority_channel_core.proofs.bag.binary_heap.WithoutBranchChoice.greater_child.Goals as goal

pub returns-then-right-items-clause-best : goal.returns-then-right-items-clause-best
returns-then-right-items-clause-best g c =
    heap.only_child (item_cmp g.P.Ord.cmp) (item_total g.met.P.Ord.total) _ c.args.at _ _ refl (omega arith)

pub returns-clause-best : goal.returns-clause-best
returns-clause-best g c =
    let R = item_cmp {T = g.row.T.Denot} g.P.Ord.cmp in
    let xs = c.args.items.now in
    let left = c.args.at * 2 + 1 in
    let is_left = c.is_lt-is_left in
    let is = compared R xs (left + 1) left _ _ _ is_left.result (omega arith) (omega arith) c.index-items-right.is c.index-items-left.is c.compare.ensures.order is_left.ensures in
    (heap.either_child R (item_total g.met.P.Ord.total) xs c.args.at left _ is_left.result refl is).1
