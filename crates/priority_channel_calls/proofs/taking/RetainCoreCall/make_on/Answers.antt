use Rattle.priority_channel_calls.proofs.taking.RetainCoreCall.make_on.Goals as goal

pub returns-in-Ok-clause-gives : goal.returns-in-Ok-clause-gives
returns-in-Ok-clause-gives g c =
    let taken = c.retain-wakes.ensures.taken in
    rw (taken.1, c.in-Ok.ensures.items) taken.3
