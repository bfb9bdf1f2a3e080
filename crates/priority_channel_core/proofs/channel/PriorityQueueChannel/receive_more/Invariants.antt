use Rattle.std.proofs.Common.{◌≡◌, ◌*◌, length, vec_capacity}
use Rattle.priority_channel_core.specs.bag.Prelude.{digits}
use Rattle.priority_channel_core.specs.Prelude.{IsGood, ComparesAtMost}
use Rattle.priority_channel_core.proofs.Many.{Received}
use Rattle.priority_channel_core.proofs.channel.PriorityQueueChannel.receive_more.Given as goal

abbrev pub invariant-loop-received : goal.invariant-loop-received
invariant-loop-received g l = record {
  received : Received g.P.Ord.cmp g.W.Clone.is_clone l.fn.self.state l.fn.batch.items l.received l.self.state l.batch.items;
  kept : vec_capacity l.batch ≡ vec_capacity l.fn.batch;
  good : IsGood l.self.state;
  cost : ComparesAtMost (l.received * (2 * digits (length l.fn.self.state.pending))) 0 l.fn.self l.self;
}
