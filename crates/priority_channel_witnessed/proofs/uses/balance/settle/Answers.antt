use Rattle.priority_channel_witnessed.proofs.Steps.{balanced}
use Rattle.priority_channel_witnessed.proofs.uses.balance.settle.Goals as goal

pub returns : goal.returns
returns g c = record { balanced = balanced g.P.Ord.cmp g.W.Clone.is_clone _ _ _ _ c.end.ensures.leads }
