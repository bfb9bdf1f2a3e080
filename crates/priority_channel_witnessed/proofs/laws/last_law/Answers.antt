use Rattle.priority_channel_witnessed.proofs.Histories.{history_run, last_made, told_made}
use Rattle.priority_channel_witnessed.proofs.laws.last_law.Goals as goal

pub returns-clause-run : goal.returns-clause-run
returns-clause-run g c = history_run g.P.Ord.cmp g.W.Clone.is_clone

pub returns-clause-last : goal.returns-clause-last
returns-clause-last g c = last_made g.P.Ord.cmp g.W.Clone.is_clone

pub returns-clause-told : goal.returns-clause-told
returns-clause-told g c = told_made g.P.Ord.cmp g.W.Clone.is_clone
