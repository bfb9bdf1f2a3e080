use Rattle.priority_channel_witnessed.proofs.Steps.{full}
use Rattle.priority_channel_witnessed.proofs.uses.service.accept.Goals as goal

pub returns : goal.returns
returns g c = record { busy = full g.P.Ord.cmp g.W.Clone.is_clone _ _ _ _ _ _ _ _ _ c.call-answer.ensures.told.told }
