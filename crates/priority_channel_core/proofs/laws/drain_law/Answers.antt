use Rattle.priority_channel_core.proofs.runs.Runs.{between_never_rises, run_drains}
use Rattle.priority_channel_core.proofs.laws.drain_law.Goals as goal

pub returns-clause-ordered : goal.returns-clause-ordered
returns-clause-ordered g c = between_never_rises g.P.Ord.cmp g.W.Clone.is_clone

pub returns-clause-drained : goal.returns-clause-drained
returns-clause-drained g c = run_drains g.P.Ord.cmp g.W.Clone.is_clone
