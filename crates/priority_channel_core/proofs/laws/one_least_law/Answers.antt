use Rattle.priority_channel_core.proofs.items.Extremes.{one_least}
use Rattle.priority_channel_core.proofs.laws.one_least_law.Goals as goal

pub returns : goal.returns
returns g c = one_least g.met.P.Ord.total
