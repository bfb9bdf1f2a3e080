use Rattle.priority_channel_witnessed.proofs.Steps.{urgent}
use Rattle.priority_channel_witnessed.proofs.uses.worker.take.Goals as goal

pub returns : goal.returns
returns g c = record { urgent = urgent g.P.Ord.cmp g.W.Clone.is_clone _ _ _ _ _ _ _ c.call-job.ensures.told.told }
