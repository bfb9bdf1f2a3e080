use Rattle.priority_channel_witnessed.specs.Waits.{gave_up}
use Rattle.priority_channel_witnessed.proofs.Waits.{tried_last}
use Rattle.priority_channel_witnessed.proofs.witnessed.waits.Witnessed+T+P+Waiter+A+J+A.try_last.Goals as goal

pub returns-in-None-clause-told : goal.returns-in-None-clause-told
returns-in-None-clause-told g c = rw c.in-None.is (λ end tried. tried_last g.P.Ord.cmp _ _ _ g.C.CoreCall.told g.C.Retry.says g.C.Awaited.polled g.C.Retry.call_of _ _ _ _ _ c.attempt.ensures.told tried)

pub returns-in-Some-clause-told : goal.returns-in-Some-clause-told
returns-in-Some-clause-told g c =
    rw c.in-Some.is (λ end tried. gave_up c.make.ensures.told.1 (tried_last g.P.Ord.cmp _ _ _ g.C.CoreCall.told g.C.Retry.says g.C.Awaited.polled g.C.Retry.call_of _ _ _ _ _ c.attempt-in-Some.ensures.told tried))
