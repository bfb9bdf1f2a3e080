use Rattle.std.proofs.Common.{refl}
use Rattle.priority_channel_core.proofs.channel.PriorityQueueChannel.try_lease_if.Goals as goal

pub returns-then-not-greatest_passes-clause-kept :
    goal.returns-then-not-greatest_passes-clause-kept
returns-then-not-greatest_passes-clause-kept g c =
    let failed = c.if-not-greatest_passes.ensures.fails refl in
    (refl, failed.0, failed.1, failed.2, failed.3)

pub returns-in-Ok-clause-meets : goal.returns-in-Ok-clause-meets
returns-in-Ok-clause-meets g c =
    let leased = rw c.in-Ok.is at c.try_lease.ensures.step.moves in
    c.if-not-greatest_passes.ensures.passes refl _ _ leased.0
