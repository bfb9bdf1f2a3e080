use Rattle.priority_channel_waiting.proofs.queue.Runs.{nobody_sleeps_on}
use Rattle.priority_channel_waiting.proofs.queue.Witness.{occurs}
use Rattle.priority_channel_waiting.proofs.laws.queue_law.Goals as goal

pub returns-clause-seen_to : goal.returns-clause-seen_to
returns-clause-seen_to g c = nobody_sleeps_on g.P.Ord.cmp

pub returns-clause-occurs : goal.returns-clause-occurs
returns-clause-occurs g c = occurs g.P.Ord.cmp
