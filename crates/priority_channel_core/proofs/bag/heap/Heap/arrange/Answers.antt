use Rattle.std.proofs.Common.{◌≡◌, ◌+◌, ◌-◌, ◌*◌, length, take, arith, refl, ap, subst, length-take-le, IsPermutation}
use Rattle.std.proofs.lemmas.List.Sorted.{IsPermutation-refl, length_permutation}
use Rattle.priority_channel_core.specs.bag.Prelude.{digits, item_cmp, IsOrdered}
use Rattle.priority_channel_core.proofs.items.ItemOrder.{item_total}
use Rattle.priority_channel_core.proofs.items.Digits.{one_more_costs}
use Rattle.priority_channel_core.proofs.items.Kept.{part_written}
use Rattle.priority_channel_core.proofs.items.Ordered.{none_yet, one_more, one_more_moves, all_settled}
use Rattle.priority_channel_core.proofs.bag.heap.Heap.arrange.Goals as goal

pub loop-last-init : goal.loop-last-init
loop-last-init g c = record {
  long = refl;
  moves = IsPermutation-refl _;
  order = none_yet (item_cmp g.P.Ord.cmp) (item_total g.met.P.Ord.total) c.args.self.now.has_two_ends c.args.self.now.items.items;
  slots = refl;
  ends = refl;
  cost = omega arith;
}

pub loop-last-preserved : goal.loop-last-preserved
loop-last-preserved g c =
    let l = c.loop-last in
    let before = l.self.items in
    let xs = before.items in
    let ys = c.settle.new.items in
    let some = before.ok in
    let front = length-take-le (l.last + 1) xs (omega arith) in
    let many : l.last + 1 - 0 ≡ l.last + 1 = omega arith in
    let value = subst (λ m. c.slice_mut-items.result.now ≡ take m xs) many c.slice_mut-items.ensures.value in
    let settled = subst (λ f. IsPermutation f ys) value c.settle.ensures.moves in
    let moves = one_more_moves _ xs ys (l.last + 1) l.invariant.moves settled in
    let long : length ys ≡ l.last + 1 = omega (arith, length_permutation _ _ settled) in
    let back = part_written ys xs before.len (l.last + 1) (omega arith) long (omega arith) in
    record {
      long = rw back (length_permutation _ _ moves);
      moves = rw back moves;
      order = rw back
          (one_more (item_cmp g.P.Ord.cmp) (item_total g.met.P.Ord.total) l.self.has_two_ends xs ys l.last (omega arith) settled
          (subst (λ f. IsOrdered (item_cmp g.P.Ord.cmp) l.self.has_two_ends (take (length f - 1) f) → IsOrdered (item_cmp g.P.Ord.cmp) l.self.has_two_ends ys) value c.settle.ensures.order) l.invariant.order);
      slots = l.invariant.slots;
      ends = l.invariant.ends;
      cost =
          let n = length c.args.self.now.items.items in
          let same = ap length value in
          omega (arith, one_more_costs l.last (length c.slice_mut-items.result.now) n (omega arith));
    }

pub returns-clause-order : goal.returns-clause-order
returns-clause-order g c = let l = c.loop-last in all_settled (item_cmp g.P.Ord.cmp) (item_total g.met.P.Ord.total) l.self.has_two_ends l.self.items.items l.last (omega arith) l.invariant.order

pub returns-clause-cost : goal.returns-clause-cost
returns-clause-cost g c =
    let l = c.loop-last in
    let n = length c.args.self.now.items.items in
    let all : l.last ≡ n = omega arith in
    omega (arith, ap (λ m. m * digits n) all)
