use Rattle.std.proofs.Common.{rules}
use Rattle.priority_channel_waiting.proofs.timeouts.SendTimeoutErrorFromEndedOverdue.from.Goals as goal

pub returns-in-Over : goal.returns-in-Over
returns-in-Over g c = search rules
