use Rattle.std.proofs.Common.{rules}
use Rattle.priority_channel_core.proofs.bag.Bag.reserved.Goals as goal

pub returns-clause-slots : goal.returns-clause-slots
returns-clause-slots g c = search rules
