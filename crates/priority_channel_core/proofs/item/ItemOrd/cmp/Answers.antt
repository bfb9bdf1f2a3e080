use Rattle.std.proofs.Common.{rules}
use Rattle.priority_channel_core.proofs.item.ItemOrd.cmp.Goals as goal

pub returns-in-Equal : goal.returns-in-Equal
returns-in-Equal g c = search rules
