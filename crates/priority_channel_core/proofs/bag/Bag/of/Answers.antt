use Rattle.std.proofs.Common.{length, ap}
use Rattle.priority_channel_core.proofs.items.Kept.{kept_none, in_order_none}
use Rattle.priority_channel_core.proofs.bag.Bag.of.Goals as goal

pub invariant_of-result : goal.invariant_of-result
invariant_of-result g c = kept_none g.met.P.Ord.total _ _ c.requires

pub returns-clause-pending : goal.returns-clause-pending
returns-clause-pending g c = in_order_none _ (ap length c.requires)
