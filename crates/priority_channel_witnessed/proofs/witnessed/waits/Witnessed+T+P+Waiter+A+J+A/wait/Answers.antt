use Rattle.std.proofs.Common.{inl}
use Rattle.priority_channel_witnessed.proofs.Waits.{tried_first, tried_last, refused_last}
use Rattle.priority_channel_witnessed.proofs.witnessed.waits.Witnessed+T+P+Waiter+A+J+A.wait.Goals as goal

pub returns-in-Err-left-clause-told : goal.returns-in-Err-left-clause-told
returns-in-Err-left-clause-told g c = tried_last g.P.Ord.cmp _ _ _ g.C.CoreCall.told g.C.Retry.says g.C.Awaited.polled g.C.Retry.call_of _ _ _ _ _ c.attempt.ensures.told (inl c.in-Err.ensures.waits)

pub returns-in-Ok-clause-told : goal.returns-in-Ok-clause-told
returns-in-Ok-clause-told g c = tried_last g.P.Ord.cmp _ _ _ g.C.CoreCall.told g.C.Retry.says g.C.Awaited.polled g.C.Retry.call_of _ _ _ _ _ c.attempt.ensures.told (inl c.in-Ok.ensures.told)

pub returns-in-Ok-new-clause-told : goal.returns-in-Ok-new-clause-told
returns-in-Ok-new-clause-told g c =
    tried_first g.P.Ord.cmp _ _ _ g.C.CoreCall.told g.C.Retry.says g.C.Awaited.polled g.C.Retry.call_of _ _ _ _ _ _ _ c.attempt.ensures.told c.in-Err.ensures.waits (rw (← c.again.ensures) c.wait_listed.ensures.told)

pub returns-in-Err-new-clause-told : goal.returns-in-Err-new-clause-told
returns-in-Err-new-clause-told g c = refused_last g.P.Ord.cmp _ _ _ g.C.CoreCall.told g.C.Retry.says g.C.Awaited.polled g.C.Retry.call_of _ _ _ _ _ c.attempt.ensures.told c.in-Err.ensures.waits
