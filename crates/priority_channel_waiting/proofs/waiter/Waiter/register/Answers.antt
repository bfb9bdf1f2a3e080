use Rattle.std.proofs.Common.{rules}
use Rattle.priority_channel_waiting.proofs.waiter.Waiter.register.Goals as goal

pub returns-clause-heard : goal.returns-clause-heard
returns-clause-heard g c = search rules
