use Rattle.std.proofs.Common.{rules}
use Rattle.priority_channel_waiting.proofs.line.Line.end_spin.Goals as goal

pub returns : goal.returns
returns g c = search rules
