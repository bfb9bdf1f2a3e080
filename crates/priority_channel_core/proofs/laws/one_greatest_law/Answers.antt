use Rattle.priority_channel_core.proofs.items.Extremes.{one_greatest}
use Rattle.priority_channel_core.proofs.laws.one_greatest_law.Goals as goal

pub returns : goal.returns
returns g c = one_greatest g.met.P.Ord.total
