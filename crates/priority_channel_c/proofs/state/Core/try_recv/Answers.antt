use Rattle.std.proofs.Common.{rules}
use Rattle.priority_channel_core.specs.declared.calls.Answer.TheVariants as answer
use Rattle.priority_channel_c.proofs.Making.{makes}
use Rattle.priority_channel_c.proofs.state.Core.try_recv.Goals as goal

pub returns : goal.returns
returns c = makes (answer.TryRecv c.try_recv-received.result.0) c.try_recv-received.ensures.step (search rules) (search rules) (search rules) (search rules)
