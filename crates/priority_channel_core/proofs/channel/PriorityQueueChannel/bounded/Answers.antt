use Rattle.std.proofs.Common.{rules}
use Rattle.priority_channel_core.proofs.channel.PriorityQueueChannel.bounded.Goals as goal

pub returns-clause-opens : goal.returns-clause-opens
returns-clause-opens g c = search rules
