use Rattle.std.proofs.Common.{rules}
use Rattle.priority_channel_waiting.proofs.line.Line.lead.Goals as goal

pub returns-clause-led : goal.returns-clause-led
returns-clause-led g c = search rules
