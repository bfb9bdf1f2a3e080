use Rattle.std.proofs.Common.{rules}
use Rattle.priority_channel_core.proofs.errors.SendFaultDisplay.fmt.Goals as goal

pub returns-clause-writes : goal.returns-clause-writes
returns-clause-writes g c = search rules
