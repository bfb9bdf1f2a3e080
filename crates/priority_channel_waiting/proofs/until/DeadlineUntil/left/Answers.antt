use Rattle.std.proofs.Common.{rules}
use Rattle.priority_channel_waiting.proofs.until.DeadlineUntil.left.Goals as goal

pub returns-in-Ok-2 : goal.returns-in-Ok-2
returns-in-Ok-2 g c = search rules

pub invariant_of-reading : goal.invariant_of-reading
invariant_of-reading g c = search rules
