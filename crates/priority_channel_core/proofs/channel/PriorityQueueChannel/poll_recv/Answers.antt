use Rattle.std.proofs.Common.{rules, arith}
use Rattle.priority_channel_core.proofs.Polls.{received_searches_less}
use Rattle.priority_channel_core.proofs.channel.PriorityQueueChannel.poll_recv.Goals as goal

pub returns-clause-cost : goal.returns-clause-cost
returns-clause-cost g c =
    let tried = c.try_recv-reply.ensures in
    let less = received_searches_less g.P.Ord.cmp c.args.self.now.state c.try_recv-reply.new.self.state c.try_recv-reply.result.0 _ tried.step.moves in
    let gave_up = c.give_up_given.ensures.cost in
    (omega (arith, tried.cost.0, gave_up.0), omega (arith, tried.cost.1, gave_up.1, less), λ known. gave_up.2 (tried.cost.2 known))

pub returns-clause-step : goal.returns-clause-step
returns-clause-step g c = search rules
