use Rattle.std.proofs.Common.{[], ◌∷◌, length, length-append, ap, arith, rules}
use Rattle.priority_channel_core.specs.bag.Prelude.{Contents}
use Rattle.priority_channel_core.proofs.items.Digits.{push_costs}
use Rattle.priority_channel_core.proofs.Fronts.{moved_more}
use Rattle.priority_channel_core.proofs.channel.bulk.send_front.Goals as goal

pub loop-sent-preserved : goal.loop-sent-preserved
loop-sent-preserved g c =
    let before = c.prepare.new.bag in
    let same = ap (λ (b : Contents g.row.T.Denot g.row.P.Denot). length b.pending) c.prepare.ensures.same in
    let ready = c.prepare.ensures.ready c.if-not-prepare.false in
    let longer = ap length c.push.ensures.pending in
    let one = length-append before.pending ((c.in-Some.msg, c.in-Some.priority) ∷ []) in
    record {
      callable = search rules;
      moved = moved_more c.push.new.self c.has_next.new.msgs c.next.new.self (c.in-Some.msg, c.in-Some.priority) c.loop-sent.invariant.moved
          c.has_next.ensures.same_list (search rules) (search rules);
      accepted = search rules;
      numbered = search rules;
      slots = search rules;
      least = search rules;
      limit = λ h. omega (arith, longer, one, ready.0, ready.2);
      held_slots = λ h. omega (arith, longer, one, ready.0, c.push.ensures.slots);
      cost = omega (arith, push_costs c.loop-sent.sent (length c.loop-sent.bag.pending) (length c.push.new.self.pending) (omega (arith, same, longer, one)), c.push.ensures.cost, c.loop-sent.invariant.cost, ap (λ (b : Contents g.row.T.Denot g.row.P.Denot). b.comparisons) c.prepare.ensures.same);
    }

pub returns-then-not-prepare-clause-moved : goal.returns-then-not-prepare-clause-moved
returns-then-not-prepare-clause-moved g c = search rules
