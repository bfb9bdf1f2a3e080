use Rattle.priority_channel_recorded.proofs.Accounts.{calls_seen}
use Rattle.priority_channel_recorded.proofs.chronicle.journal.Journal.leave.Goals as goal

pub returns-clause-counted : goal.returns-clause-counted
returns-clause-counted g c = rw (← c.pass.view_is) (calls_seen g.H.Chronicle.who _ _ _ _ c.await_front.ensures c.pass.invariant.2)
