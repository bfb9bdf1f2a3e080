use Rattle.std.proofs.Common.{rules}
use Rattle.priority_channel_recorded.proofs.chronicle.pass.Pass.learn.Goals as goal

pub returns-clause-that : goal.returns-clause-that
returns-clause-that g c = search rules
