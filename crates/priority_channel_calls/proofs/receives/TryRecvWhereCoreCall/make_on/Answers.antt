use Rattle.priority_channel_calls.proofs.Chosen.{without_step}
use Rattle.priority_channel_calls.proofs.receives.TryRecvWhereCoreCall.make_on.Goals as goal

pub returns-clause-greatest : goal.returns-clause-greatest
returns-clause-greatest g c = without_step _ _ _ _ c.try_recv_where.ensures.received
