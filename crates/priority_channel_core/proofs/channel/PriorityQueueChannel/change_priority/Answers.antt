use Rattle.std.proofs.Common.{ap}
use Rattle.priority_channel_core.proofs.Changing.{change_is_step}
use Rattle.priority_channel_core.proofs.channel.PriorityQueueChannel.change_priority.Goals as goal

pub returns-clause-step : goal.returns-clause-step
returns-clause-step g c =
    let own = c.self.inside in
    let changed = c.change_priority-changed in
    rw (← c.self.view_is)
    (change_is_step g.P.Ord.cmp g.W.Clone.is_clone own.bag changed.new.self own.word.word own.capacity own.is_reserved own.sender_count own.receiver_count c.self.invariant
    _ _ c.args.priority changed.result changed.ensures.changed changed.ensures.handed_back changed.ensures.unchanged (ap (λ b. b.accepted) changed.ensures.same))

pub returns-clause-first : goal.returns-clause-first
returns-clause-first g c = rw (← c.self.view_is) c.change_priority-changed.ensures.changed

pub returns-clause-none : goal.returns-clause-none
returns-clause-none g c = rw (← c.self.view_is) c.change_priority-changed.ensures.none
