use Rattle.priority_channel_core.proofs.Lists.{list_from_source}
use Rattle.priority_channel_core.proofs.laws.list_law.Goals as goal

pub returns : goal.returns
returns g c = λ msgs list e h. list_from_source g.I.Iterator.next_gives msgs list e h
