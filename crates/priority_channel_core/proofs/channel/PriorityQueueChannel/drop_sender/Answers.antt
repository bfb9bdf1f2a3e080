use Rattle.std.proofs.Common.{rules}
use Rattle.priority_channel_core.proofs.channel.PriorityQueueChannel.drop_sender.Goals as goal

pub returns-then-self-gt1-clause-step : goal.returns-then-self-gt1-clause-step
returns-then-self-gt1-clause-step g c = search rules
