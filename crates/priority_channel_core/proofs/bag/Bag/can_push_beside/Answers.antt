use Rattle.std.proofs.Common.{rules}
use Rattle.priority_channel_core.proofs.bag.Bag.can_push_beside.Goals as goal

pub returns : goal.returns
returns g c = search rules
