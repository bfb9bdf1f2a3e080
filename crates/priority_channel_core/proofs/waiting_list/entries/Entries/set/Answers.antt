use Rattle.std.proofs.Common.{rules}
use Rattle.priority_channel_core.proofs.waiting_list.entries.Entries.set.Goals as goal

pub returns : goal.returns
returns g c = search rules
