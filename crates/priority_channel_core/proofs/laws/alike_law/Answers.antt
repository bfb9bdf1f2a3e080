use Rattle.priority_channel_core.proofs.alike.Lists.{state_same}
use Rattle.priority_channel_core.proofs.alike.Steps.{runs_same}
use Rattle.priority_channel_core.proofs.laws.alike_law.Goals as goal

pub returns : goal.returns
returns g c = λ old new other run another a b alike.
    runs_same g.W.Clone.is_clone g.met.P.Ord.total old old new other run another (state_same g.W.Clone.is_clone old) a b alike
