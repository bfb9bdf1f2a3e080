use Rattle.priority_channel_witnessed.proofs.Waits.{last_told}
use Rattle.priority_channel_witnessed.proofs.laws.wait_law.Goals as goal

pub returns : goal.returns
returns g c = λ old new call ticket ending comes. last_told g.P.Ord.cmp g.W.Clone.is_clone _ _ _ _ comes
