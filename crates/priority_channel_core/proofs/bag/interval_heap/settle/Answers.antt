use Rattle.std.proofs.Common.{◌+◌, ◌-◌, ◌/◌, length, arith, sym, eqb-true}
use Rattle.std.proofs.lemmas.Bool.{eqb-false}
use Rattle.priority_channel_core.specs.bag.Prelude.{item_cmp}
use Rattle.priority_channel_core.proofs.items.Digits.{digits-mono}
use Rattle.priority_channel_core.proofs.items.ItemOrder.{item_total}
use Rattle.priority_channel_core.proofs.items.IntervalHeaps.{is_single, opens_last}
use Rattle.priority_channel_core.proofs.bag.interval_heap.settle.Goals as goal

pub returns-then-is_empty-clause-order : goal.returns-then-is_empty-clause-order
returns-then-is_empty-clause-order g c = λ _. let none = eqb-true _ 0 (sym c.if-is_empty.ensures) in is_single (item_cmp g.P.Ord.cmp) c.args.items.now (omega arith)

pub returns-clause-order : goal.returns-clause-order
returns-clause-order g c = λ w.
    let some = eqb-false _ 0 (sym c.if-is_empty.ensures) in
    c.settle_at.ensures.order (opens_last (item_cmp g.P.Ord.cmp) (item_total g.met.P.Ord.total) c.args.items.now (length c.args.items.now - 1) (omega arith) w)

pub returns-clause-cost : goal.returns-clause-cost
returns-clause-cost g c =
    let some = eqb-false _ 0 (sym c.if-is_empty.ensures) in
    let n = length c.args.items.now in
    omega (arith, digits-mono ((n - 1) / 2 + 1) n (omega arith))
