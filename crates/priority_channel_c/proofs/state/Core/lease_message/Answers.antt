use Rattle.std.proofs.Common.{rules}
use Rattle.priority_channel_core.specs.declared.calls.Call.TheVariants as call
use Rattle.priority_channel_core.specs.declared.calls.Answer.TheVariants as answer
use Rattle.priority_channel_c.proofs.Making.{quietly_meant}
use Rattle.priority_channel_c.proofs.state.Core.lease_message.Goals as goal

pub returns : goal.returns
returns c = quietly_meant (call.LeaseWhere c.lease_message-leased.ensures.step.0) (answer.LeaseWhere c.lease_message-leased.result) c.lease_message-leased.ensures.step.1 (search rules) (search rules) (search rules) (search rules)
