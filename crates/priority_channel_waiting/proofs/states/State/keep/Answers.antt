use Rattle.std.proofs.Common.{rules}
use Rattle.priority_channel_waiting.proofs.states.State.keep.Goals as goal

pub returns-in-Pending-clause-left : goal.returns-in-Pending-clause-left
returns-in-Pending-clause-left g c = search rules
