use Rattle.priority_channel_core.proofs.runs.Done.{ends_if_done, closes_if_done, marked_by, plain_run}
use Rattle.priority_channel_core.proofs.laws.done_law.Goals as goal

pub returns-clause-ended : goal.returns-clause-ended
returns-clause-ended g c = ends_if_done g.P.Ord.cmp g.W.Clone.is_clone

pub returns-clause-not_before : goal.returns-clause-not_before
returns-clause-not_before g c = closes_if_done g.P.Ord.cmp g.W.Clone.is_clone

pub returns-clause-asked : goal.returns-clause-asked
returns-clause-asked g c = marked_by g.P.Ord.cmp g.W.Clone.is_clone

pub returns-clause-plain : goal.returns-clause-plain
returns-clause-plain g c = plain_run g.P.Ord.cmp g.W.Clone.is_clone
