use Rattle.std.proofs.Common.{◌+◌, ◌-◌, ◌/◌, get_or, arith}
use Rattle.std.specs.declared.cmp.Ordering.TheVariants.{Less, Greater}
use Rattle.priority_channel_core.proofs.items.Digits.{digits-half}
use Rattle.priority_channel_core.proofs.Waiting.{ranked, below_rising, above_rising, absent_between}
use Rattle.priority_channel_core.proofs.waiting_list.WaitingList.position_of.Goals as goal

pub loop-low-preserved-in-Less : goal.loop-low-preserved-in-Less
loop-low-preserved-in-Less g c =
    let xs = c.self.inside.entries in let middle = c.loop-low.low + (c.loop-low.high - c.loop-low.low) / 2 in
    record {
      in_order = omega arith;
      in_list = omega arith;
      below = below_rising xs c.args.ticket middle c.self.invariant (omega arith) (λ d. ranked Less (get_or xs middle d).0 c.args.ticket (c.in-Less.ensures.order d));
      above = c.loop-low.invariant.above;
      cost = let h = digits-half (c.loop-low.high - (middle + 1)) (c.loop-low.high - c.loop-low.low) (omega arith) (omega arith) in omega (arith, c.in-Less.ensures.count);
    }

pub loop-low-preserved : goal.loop-low-preserved
loop-low-preserved g c =
    let xs = c.self.inside.entries in let middle = c.loop-low.low + (c.loop-low.high - c.loop-low.low) / 2 in
    record {
      in_order = omega arith;
      in_list = omega arith;
      below = c.loop-low.invariant.below;
      above = above_rising xs c.args.ticket middle c.self.invariant (λ d. ranked Greater (get_or xs middle d).0 c.args.ticket (c.in-Greater.ensures.order d));
      cost = let h = digits-half (middle - c.loop-low.low) (c.loop-low.high - c.loop-low.low) (omega arith) (omega arith) in omega (arith, c.in-Greater.ensures.count);
    }

pub returns-in-Equal-clause-cost : goal.returns-in-Equal-clause-cost
returns-in-Equal-clause-cost g c =
    let h = digits-half 0 (c.loop-low.high - c.loop-low.low) (omega arith) (omega arith) in
    rw (← c.self.view_is) (omega (arith, c.in-Equal.ensures.count))

pub returns-clause-absent : goal.returns-clause-absent
returns-clause-absent g c =
    rw (← c.self.view_is) (absent_between c.self.inside.entries c.args.ticket c.loop-low.low c.loop-low.high (omega arith) c.loop-low.invariant.below c.loop-low.invariant.above)
