use Rattle.std.proofs.Common.{rules}
use Rattle.priority_channel_core.proofs.channel.PriorityQueueChannel.close.Goals as goal

pub returns-clause-step : goal.returns-clause-step
returns-clause-step g c = search rules

pub returns-then-load-clause-step : goal.returns-then-load-clause-step
returns-then-load-clause-step g c = search rules
