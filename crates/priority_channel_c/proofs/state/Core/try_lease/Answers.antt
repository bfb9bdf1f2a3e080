use Rattle.std.proofs.Common.{rules}
use Rattle.priority_channel_core.specs.declared.calls.Answer.TheVariants as answer
use Rattle.priority_channel_c.proofs.Making.{quietly}
use Rattle.priority_channel_c.proofs.state.Core.try_lease.Goals as goal

pub returns : goal.returns
returns c = quietly (answer.TryLease c.try_lease-leased.result) c.try_lease-leased.ensures.step (search rules) (search rules) (search rules)
