use Rattle.std.proofs.Common.{rules}
use Rattle.priority_channel_recorded.proofs.chronicle.log.Log.meet.Goals as goal

pub returns-clause-same : goal.returns-clause-same
returns-clause-same g c = search rules
