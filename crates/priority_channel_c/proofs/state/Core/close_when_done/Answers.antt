use Rattle.std.proofs.Common.{rules}
use Rattle.priority_channel_core.specs.declared.calls.Answer.TheVariants as answer
use Rattle.priority_channel_c.proofs.Making.{makes}
use Rattle.priority_channel_c.proofs.state.Core.close_when_done.Goals as goal

pub returns : goal.returns
returns c = makes answer.CloseWhenDone c.close_when_done-wakes.ensures.step (search rules) (search rules) (search rules) (search rules)
