use Rattle.std.proofs.Common.{◌/◌, arith, refl}
use Rattle.std.proofs.lemmas.List.Sorted.{IsPermutation-refl, IsPermutation-trans}
use Rattle.priority_channel_core.proofs.items.Digits.{digits_step, digits_some}
use Rattle.priority_channel_core.proofs.bag.interval_heap.sift.fall.Goals as goal

pub loop-at-init : goal.loop-at-init
loop-at-init g c = record {
  long = refl;
  within = c.requires;
  moves = IsPermutation-refl _;
  order = λ h. h;
  cost = omega (arith, digits_some (c.args.at / 2));
}

pub loop-at-preserved : goal.loop-at-preserved
loop-at-preserved g c =
    let l = c.loop-at in
    let to = c.child_of-child in
    record {
      long = omega arith;
      within = omega arith;
      moves = IsPermutation-trans _ _ _ l.invariant.moves c.swap.ensures.permutation;
      order = λ h. to.ensures.order c.swap.new.self c.swap.ensures.len c.swap.ensures.by_index (l.invariant.order h);
      cost = omega (arith, digits_step l.at to.result (omega arith) (omega arith));
    }
