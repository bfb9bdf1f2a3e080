use Rattle.std.proofs.Common.{rules}
use Rattle.priority_channel_waiting.proofs.line.Line.list_first.Goals as goal

pub returns-clause-sleeps : goal.returns-clause-sleeps
returns-clause-sleeps g c = search rules
