use Rattle.std.proofs.Common.{◌-◌, ◌/◌, true, false, arith, refl}
use Rattle.std.proofs.lemmas.List.Sorted.{IsPermutation-refl, IsPermutation-trans}
use Rattle.std.proofs.HeapSift as heap
use Rattle.priority_channel_core.specs.bag.Prelude.{item_cmp}
use Rattle.priority_channel_core.proofs.items.Digits.{digits_parent}
use Rattle.priority_channel_core.proofs.items.ItemOrder.{item_total, compared}
use Rattle.priority_channel_core.proofs.bag.binary_heap.rise.Goals as goal

pub loop-at-init : goal.loop-at-init
loop-at-init g c = record {
  long = refl;
  below = omega arith;
  moves = IsPermutation-refl _;
  order = heap.rise_begins _ (item_total g.met.P.Ord.total) _ _;
  cost = omega arith;
}

pub returns-then-not-is_lt-clause-order : goal.returns-then-not-is_lt-clause-order
returns-then-not-is_lt-clause-order g c =
    let l = c.loop-at in
    let long = l.invariant.long in
    heap.rise_rests _ (item_total g.met.P.Ord.total) _ _ _ l.at
    (compared (item_cmp g.P.Ord.cmp) l.items ((l.at - 1) / 2) l.at _ _ _ false (omega arith) (omega arith) c.index-items-parent.is c.index-items-at.is c.compare.ensures.order c.if-not-is_lt.ensures)
    l.invariant.order

pub returns-then-not-is_lt-clause-cost : goal.returns-then-not-is_lt-clause-cost
returns-then-not-is_lt-clause-cost g c = omega (arith, digits_parent c.loop-at.at (omega arith))

pub loop-at-preserved : goal.loop-at-preserved
loop-at-preserved g c = let l = c.loop-at in record {
  long = omega arith;
  below = omega arith;
  moves = IsPermutation-trans _ _ _ l.invariant.moves c.exchange.ensures.permutation;
  order = heap.rise_steps _ (item_total g.met.P.Ord.total) _ _ _ _ l.at (omega arith) (omega arith) (omega arith) c.exchange.ensures.after
      (compared (item_cmp g.P.Ord.cmp) l.items ((l.at - 1) / 2) l.at _ _ _ true (omega arith) (omega arith) c.index-items-parent.is c.index-items-at.is c.compare.ensures.order c.if-not-is_lt.ensures)
      l.invariant.order;
  cost = omega (arith, digits_parent l.at (omega arith));
}

pub returns-clause-order : goal.returns-clause-order
returns-clause-order g c = heap.rise_tops _ (item_total g.met.P.Ord.total) _ _ _ c.loop-at.at (omega arith) c.loop-at.invariant.order
