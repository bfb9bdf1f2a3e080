use Rattle.priority_channel_witnessed.proofs.Histories.{history_more, legal_of}
use Rattle.priority_channel_witnessed.proofs.Leaving.{shared_more}
use Rattle.priority_channel_witnessed.proofs.journal.Journal.enter.Goals as goal

pub invariant_of-self : goal.invariant_of-self
invariant_of-self g c =
    let before = c.self.invariant in
    (before.0, before.1, before.2, rw c.enter.ensures.entered (shared_more _ _ _ _ _ before.2 before.3 c.await_given.ensures))

pub enter-requires-clause-legal : goal.enter-requires-clause-legal
enter-requires-clause-legal g c =
    let made = c.requires.made in
    legal_of g.P.Ord.cmp g.W.Clone.is_clone _ _ _ _ (history_more g.P.Ord.cmp g.W.Clone.is_clone _ _ _ _ _ _ (rw (← c.self.view_is) at made.1) made.2)

pub returns-clause-leads : goal.returns-clause-leads
returns-clause-leads g c =
    let made = c.requires.made in
    rw c.enter.ensures.entered (history_more g.P.Ord.cmp g.W.Clone.is_clone _ _ _ _ _ _ (rw (← c.self.view_is) at made.1) made.2)
