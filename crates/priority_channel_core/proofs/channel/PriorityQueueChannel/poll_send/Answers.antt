use Rattle.std.proofs.Common.{[], ◌∷◌, arith}
use Rattle.priority_channel_core.specs.Prelude.{as_list}
use Rattle.priority_channel_core.proofs.Sends.{sends_front}
use Rattle.priority_channel_core.proofs.Polls.{poll_costs}
use Rattle.priority_channel_core.proofs.channel.PriorityQueueChannel.poll_send.Goals as goal

pub returns-clause-step : goal.returns-clause-step
returns-clause-step g c =
    let ended = c.end_send.ensures in
    record {
      moves = record {
        reply = c.try_send-reply.result.0;
        ticket = ended.ends.0;
        mid = c.try_send-reply.new.self.state;
        tried = c.try_send-reply.ensures.step.moves;
        answered = ended.ends.1;
        ends = ended.ends.2;
      };
      good = ended.good;
    }

pub returns-clause-cost : goal.returns-clause-cost
returns-clause-cost g c =
    let tried = c.try_send-reply.ensures in
    let ended = c.end_send.ensures in
    let front = sends_front c.args.self.now.state c.try_send-reply.new.self.state ((c.args.msg, c.args.priority) ∷ [])
    (as_list c.try_send-reply.result.0) c.try_send-reply.result.1 tried.step.moves in
    let costs = poll_costs g.W.Clone.is_clone c.args.self.now c.try_send-reply.new.self c.end_send.new.self c.args.ticket ended.ends.0 c.args.waker.now
    front.0 c.try_send-reply.result.1 front.1 ended.ends.2 1 (omega (arith, tried.cost.0), omega (arith, tried.cost.1), tried.cost.2) ended.cost in
    (omega (arith, costs.0), costs.1, costs.2)
