use Rattle.std.proofs.Common.{arith}
use Rattle.std.proofs.lemmas.Grind.{common_steps}
use Rattle.priority_channel_core.proofs.channel.PriorityQueueChannel.close_when_done.Goals as goal

pub invariant_of-self : goal.invariant_of-self
invariant_of-self g c = grind (arith, common_steps)

pub returns-then-not-is_done-clause-step : goal.returns-then-not-is_done-clause-step
returns-then-not-is_done-clause-step g c = grind (arith, common_steps)
