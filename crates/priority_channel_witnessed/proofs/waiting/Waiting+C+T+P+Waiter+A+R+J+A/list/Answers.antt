use Rattle.priority_channel_witnessed.proofs.Waits.{polled_first, polled_last}
use Rattle.priority_channel_witnessed.proofs.waiting.Waiting+C+T+P+Waiter+A+R+J+A.list.Goals as goal

pub returns-in_default-clause-answered : goal.returns-in_default-clause-answered
returns-in_default-clause-answered g c = rw (← c.self.view_is) (c.try_last.ensures.told _ c.end_refused.ensures)

pub returns-clause-answered : goal.returns-clause-answered
returns-clause-answered g c =
    rw (← c.self.view_is, c.answer_or_listed.ensures) (polled_last g.P.Ord.cmp _ _ _ g.C.CoreCall.told g.C.Retry.says g.C.Awaited.polled g.C.Retry.call_of _ _ _ _ _ _ _ c.make.ensures.told.1)

pub returns-clause-listed : goal.returns-clause-listed
returns-clause-listed g c =
    rw (← c.self.view_is, c.answer_or_listed.ensures) (polled_first g.P.Ord.cmp _ _ _ g.C.CoreCall.told g.C.Retry.says g.C.Awaited.polled g.C.Retry.call_of _ _ _ _ _ _ g.C.CoreCall.can_make (λ rest. g.C.Retry.leaves c.args.call rest) _ c.make.ensures.told.1 c.make.ensures.gives)
