use Rattle.std.proofs.Common.{inl}
use Rattle.priority_channel_witnessed.proofs.Waits.{tried_first, tried_last}
use Rattle.priority_channel_witnessed.proofs.waiting.Witnessed+T+P+Waiter+A+J+A.try_first.Goals as goal

pub returns-in-Ok-clause-answered : goal.returns-in-Ok-clause-answered
returns-in-Ok-clause-answered g c = rw c.in-None.is (tried_last g.P.Ord.cmp _ _ _ g.C.CoreCall.told g.C.Retry.says g.C.Awaited.polled g.C.Retry.call_of _ _ _ _ _ c.attempt.ensures.told (inl c.in-Ok.ensures.told))

pub returns-in-Err-clause-goes_on : goal.returns-in-Err-clause-goes_on
returns-in-Err-clause-goes_on g c = rw (c.in-None.is, c.again.ensures) (λ ending later more. tried_first g.P.Ord.cmp _ _ _ g.C.CoreCall.told g.C.Retry.says g.C.Awaited.polled g.C.Retry.call_of _ _ _ _ _ _ _ c.attempt.ensures.told c.in-Err.ensures.waits more)
