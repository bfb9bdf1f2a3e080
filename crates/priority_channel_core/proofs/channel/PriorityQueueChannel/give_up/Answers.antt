use Rattle.std.proofs.Common.{rules}
use Rattle.priority_channel_core.proofs.channel.PriorityQueueChannel.give_up.Goals as goal

pub returns-clause-step : goal.returns-clause-step
returns-clause-step g c = search rules
