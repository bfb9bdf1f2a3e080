use Rattle.std.proofs.Common.{◌+◌, length, arith, refl, ap}
use Rattle.std.proofs.lemmas.List.Sorted.{IsPermutation-refl, IsPermutation-trans, length_permutation}
use Rattle.priority_channel_core.specs.bag.Prelude.{digits}
use Rattle.priority_channel_core.proofs.items.BinaryHeaps.{opens, falls, closes}
use Rattle.priority_channel_core.proofs.items.Digits.{digits_child, digits-mono}
use Rattle.priority_channel_core.proofs.items.ItemOrder.{item_total}
use Rattle.priority_channel_core.proofs.bag.binary_heap.sink_by.Goals as goal

pub loop-at-init : goal.loop-at-init
loop-at-init g c = record {
  long = refl;
  within = c.requires;
  moves = IsPermutation-refl _;
  hole = λ x w. opens _ (item_total g.met.P.Ord.total) _ _ x w;
  cost = omega arith;
}

pub loop-at-preserved : goal.loop-at-preserved
loop-at-preserved g c =
    let l = c.loop-at in
    let to = c.greater_child-child.result in
    let child = c.greater_child-child.ensures.child in
    let long = l.invariant.long in
    let same = length_permutation _ _ c.exchange.ensures.permutation in
    record {
      long = omega arith;
      within = omega arith;
      moves = IsPermutation-trans _ _ _ l.invariant.moves c.exchange.ensures.permutation;
      hole = λ x w. rw same
          (falls _ (item_total g.met.P.Ord.total) _ _ l.at _ _ child.0 child.1 (omega arith) (omega arith) c.exchange.ensures.after
          c.greater_child-child.ensures.best (l.invariant.hole x w));
      cost = omega (arith, digits_child l.at to child.0);
    }

pub returns-clause-moves : goal.returns-clause-moves
returns-clause-moves g c = IsPermutation-trans _ _ _ c.loop-at.invariant.moves c.rise.ensures.moves

pub returns-clause-order : goal.returns-clause-order
returns-clause-order g c = λ x w.
    let l = c.loop-at in
    closes _ (item_total g.met.P.Ord.total) _ _ l.at (omega arith) l.invariant.within (length_permutation _ _ c.rise.ensures.moves)
    (l.invariant.hole x w) c.rise.ensures.order

pub returns-clause-cost : goal.returns-clause-cost
returns-clause-cost g c =
    let l = c.loop-at in
    omega (arith, digits-mono l.at (length l.items) (omega arith), digits-mono (l.at + 1) (length l.items) (omega arith), ap digits l.invariant.long)
