use Rattle.priority_channel_recorded.proofs.recorder.Recorded.end.Goals as goal

pub returns-clause-seen : goal.returns-clause-seen
returns-clause-seen g c =
    rw (c.into_history.ensures.history, ← c.book.invariant.0, ← c.end-seen.ensures.same) c.end-seen.ensures.seen

pub returns-clause-accounts : goal.returns-clause-accounts
returns-clause-accounts g c =
    rw (c.into_history.ensures.history, ← c.book.invariant.0, ← c.end-seen.ensures.same) (c.end-seen.ensures.accounts c.book.invariant.2)
