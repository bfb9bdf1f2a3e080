use Rattle.std.proofs.Common.{rules}
use Rattle.priority_channel_waiting.proofs.line.Line.is_unattended.Goals as goal

pub returns-then-is_none : goal.returns-then-is_none
returns-then-is_none g c = search rules
