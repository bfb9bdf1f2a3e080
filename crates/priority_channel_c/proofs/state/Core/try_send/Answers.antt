use Rattle.std.proofs.Common.{rules}
use Rattle.priority_channel_core.specs.declared.calls.Answer.TheVariants as answer
use Rattle.priority_channel_c.proofs.Making.{makes}
use Rattle.priority_channel_c.proofs.state.Core.try_send.Goals as goal

pub returns : goal.returns
returns c = makes (answer.TrySend c.try_send-sent.result.0) c.try_send-sent.ensures.step (search rules) (search rules) (search rules) (search rules)
