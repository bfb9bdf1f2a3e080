use Rattle.std.proofs.Common.{rules}
use Rattle.priority_channel_core.proofs.channel.PriorityQueueChannel.end_send.Goals as goal

pub returns-in-Some-clause-ends : goal.returns-in-Some-clause-ends
returns-in-Some-clause-ends g c = search rules

pub returns-in-Some-clause-renewed : goal.returns-in-Some-clause-renewed
returns-in-Some-clause-renewed g c = search rules

pub returns-in-Some-clause-cost : goal.returns-in-Some-clause-cost
returns-in-Some-clause-cost g c = search rules
