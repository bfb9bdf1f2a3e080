use Rattle.priority_channel_recorded.proofs.Fixed.{one_state}
use Rattle.priority_channel_recorded.proofs.laws.history_law.Goals as goal

pub returns : goal.returns
returns g c = one_state g.met.P.Ord.total
