use Rattle.std.proofs.Common.{rules}
use Rattle.priority_channel_waiting.proofs.states.State.give_up_on.Goals as goal

pub returns-clause-kept : goal.returns-clause-kept
returns-clause-kept g c = search rules
