use Rattle.std.proofs.Common.{rules}
use Rattle.priority_channel_witnessed.proofs.witnessed.Witnessed.fork.Goals as goal

pub returns-clause-begins : goal.returns-clause-begins
returns-clause-begins g c = search rules
