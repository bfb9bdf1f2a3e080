use Rattle.std.proofs.Common.{rules}
use Rattle.priority_channel_core.proofs.awaitable_atomics.Wakes.into_lists.Goals as goal

pub returns-clause-room : goal.returns-clause-room
returns-clause-room g c = search rules

pub returns-clause-message : goal.returns-clause-message
returns-clause-message g c = search rules
