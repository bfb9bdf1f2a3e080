use Rattle.priority_channel_waiting.proofs.selecting.Selecting.due.Goals as goal

pub returns-clause-first_kept : goal.returns-clause-first_kept
returns-clause-first_kept g c = rw (← c.self.view_is) c.due-first.ensures.kept

pub returns-clause-all_kept : goal.returns-clause-all_kept
returns-clause-all_kept g c = rw (← c.self.view_is) c.due-all.ensures.kept

pub returns-clause-close_kept : goal.returns-clause-close_kept
returns-clause-close_kept g c = rw (← c.self.view_is) c.due-close.ensures.kept
