use Rattle.std.proofs.Common.{◌≡◌, ◌+◌, ◌/◌, ◌%◌, arith}
use Rattle.std.proofs.lemmas.List.Sorted.{IsPermutation-trans}
use Rattle.priority_channel_core.proofs.items.ItemOrder.{item_total}
use Rattle.priority_channel_core.proofs.items.Digits.{digits_step, digits_some}
use Rattle.priority_channel_core.proofs.items.IntervalHeaps.{rises_high, rests_high, rises_low, rests_low}
use Rattle.priority_channel_core.proofs.bag.interval_heap.sift.rise.Goals as goal

pub returns-then-not-is_beyond-clause-high : goal.returns-then-not-is_beyond-clause-high
returns-then-not-is_beyond-clause-high g c = λ e h.
    let l = c.loop-at in
    let even : l.at % 2 ≡ 0 = omega arith in
    rests_high _ (item_total g.met.P.Ord.total) _ l.at even (λ more. grind (arith, c.if-not-is_beyond.ensures.high even)) (l.invariant.high even h)

pub returns-then-not-is_beyond-clause-low : goal.returns-then-not-is_beyond-clause-low
returns-then-not-is_beyond-clause-low g c = λ e h.
    let l = c.loop-at in
    let odd : l.at % 2 ≡ 1 = omega arith in
    rests_low _ (item_total g.met.P.Ord.total) _ l.at odd (λ more. grind (arith, c.if-not-is_beyond.ensures.low odd)) (l.invariant.low odd h)

pub returns-then-not-is_beyond-clause-cost : goal.returns-then-not-is_beyond-clause-cost
returns-then-not-is_beyond-clause-cost g c =
    let l = c.loop-at in
    let up = c.high_of_parent.result + l.at % 2 in
    omega (arith, digits_step up l.at (omega arith) (omega arith), digits_some (up / 2))

pub loop-at-preserved : goal.loop-at-preserved
loop-at-preserved g c =
    let l = c.loop-at in
    let up = c.high_of_parent.result + l.at % 2 in
    record {
      long = omega arith;
      within = omega arith;
      side = omega arith;
      moves = IsPermutation-trans _ _ _ l.invariant.moves c.swap.ensures.permutation;
      high = λ e h.
          let even : l.at % 2 ≡ 0 = omega arith in
          rises_high _ (item_total g.met.P.Ord.total) _ _ _ _ (omega arith) c.swap.ensures.len c.swap.ensures.by_index even (omega arith) (omega arith)
          (c.if-not-is_beyond.ensures.high even) (l.invariant.high even h);
      low = λ e h.
          let odd : l.at % 2 ≡ 1 = omega arith in
          rises_low _ (item_total g.met.P.Ord.total) _ _ _ _ (omega arith) c.swap.ensures.len c.swap.ensures.by_index odd (omega arith) (omega arith)
          (c.if-not-is_beyond.ensures.low odd) (l.invariant.low odd h);
      cost = omega (arith, digits_step up l.at (omega arith) (omega arith));
    }

pub returns-clause-high : goal.returns-clause-high
returns-clause-high g c = λ e h. let l = c.loop-at in let even : l.at % 2 ≡ 0 = omega arith in rests_high _ (item_total g.met.P.Ord.total) _ l.at even (λ more. absurd (omega arith)) (l.invariant.high even h)

pub returns-clause-low : goal.returns-clause-low
returns-clause-low g c = λ e h. let l = c.loop-at in let odd : l.at % 2 ≡ 1 = omega arith in rests_low _ (item_total g.met.P.Ord.total) _ l.at odd (λ more. absurd (omega arith)) (l.invariant.low odd h)

pub returns-clause-cost : goal.returns-clause-cost
returns-clause-cost g c = let l = c.loop-at in omega (arith, digits_some (l.at / 2))
