use Rattle.std.proofs.Common.{length, arith, rules}
use Rattle.priority_channel_core.proofs.Many.{received_more, refusal_costs, receive_costs}
use Rattle.priority_channel_core.proofs.channel.PriorityQueueChannel.receive_more.Goals as goal

pub returns-in-Err-clause-cost : goal.returns-in-Err-clause-cost
returns-in-Err-clause-cost g c =
    let cost = c.try_recv-next.ensures.cost in
    let before = c.loop-received.invariant.cost in
    let nothing = refusal_costs g.P.Ord.cmp g.W.Clone.is_clone c.loop-received.self.state c.try_recv-next.new.self.state c.in-Err.field-0 c.try_recv-next.result.1
    (rw c.in-Err.is at c.try_recv-next.ensures.step) in
    (omega (arith, cost.0, before.0, nothing), omega (arith, cost.1, before.1), λ known. cost.2 (before.2 known))

pub loop-received-preserved : goal.loop-received-preserved
loop-received-preserved g c =
    let all = length c.args.self.now.state.pending in
    let left = length c.loop-received.self.state.pending in
    let cost = c.try_recv-next.ensures.cost in
    let before = c.loop-received.invariant.cost in
    let more = receive_costs c.loop-received.received left all (omega (arith, c.loop-received.invariant.received.counted)) in
    record {
      received = received_more g.P.Ord.cmp g.W.Clone.is_clone _ c.loop-received.self.state c.try_recv-next.new.self.state _ c.loop-received.batch.items c.push_reserved.new.self.items c.loop-received.received c.in-Ok.pair c.try_recv-next.result.1
          c.loop-received.invariant.received
          (rw c.in-Ok.is at c.try_recv-next.ensures.step)
          c.push_reserved.ensures.items;
      kept = search rules;
      good = search rules;
      cost = (omega (arith, more, before.0, cost.0), omega (arith, before.1, cost.1), λ known. cost.2 (before.2 known));
    }
