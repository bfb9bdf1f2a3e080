use Rattle.std.proofs.Common.{rules}
use Rattle.priority_channel_core.specs.declared.calls.Answer.TheVariants as answer
use Rattle.priority_channel_c.proofs.Making.{makes}
use Rattle.priority_channel_c.proofs.state.Core.close.Goals as goal

pub returns : goal.returns
returns c = makes (answer.Close c.close-was_open.result.0) c.close-was_open.ensures.step (search rules) (search rules) (search rules) (search rules)
