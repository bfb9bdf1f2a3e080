use Rattle.priority_channel_core.proofs.runs.Places.{run_counts}
use Rattle.priority_channel_core.proofs.runs.Runs.{run_conserves, run_closed}
use Rattle.priority_channel_core.proofs.laws.conservation_law.Goals as goal

pub returns-clause-conserved : goal.returns-clause-conserved
returns-clause-conserved g c = run_conserves g.P.Ord.cmp g.W.Clone.is_clone

pub returns-clause-closed : goal.returns-clause-closed
returns-clause-closed g c = run_closed g.P.Ord.cmp g.W.Clone.is_clone

pub returns-clause-places : goal.returns-clause-places
returns-clause-places g c = run_counts g.P.Ord.cmp g.W.Clone.is_clone
