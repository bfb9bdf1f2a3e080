use Rattle.std.proofs.Common.{rules}
use Rattle.priority_channel_core.proofs.waiting_list.WaitingList.list_next.Goals as goal

pub returns-clause-listed : goal.returns-clause-listed
returns-clause-listed g c = search rules
