use Rattle.priority_channel_recorded.proofs.Histories.{step_capacity}
use Rattle.priority_channel_recorded.proofs.book.Book.record.Goals as goal

pub returns-clause-capacity : goal.returns-clause-capacity
returns-clause-capacity g c = rw (← c.self.view_is) (step_capacity g.P.Ord.cmp _ _ _ _ c.make-reply.ensures)
