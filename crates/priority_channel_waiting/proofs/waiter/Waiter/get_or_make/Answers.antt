use Rattle.std.proofs.Common.{rules}
use Rattle.priority_channel_waiting.proofs.waiter.Waiter.get_or_make.Goals as goal

pub returns-in_err-ok : goal.returns-in_err-ok
returns-in_err-ok g c = search rules

pub returns : goal.returns
returns g c = search rules
