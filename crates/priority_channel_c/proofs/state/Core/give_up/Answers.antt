use Rattle.std.proofs.Common.{rules}
use Rattle.priority_channel_core.specs.declared.calls.Answer.TheVariants as answer
use Rattle.priority_channel_c.proofs.Making.{quietly}
use Rattle.priority_channel_c.proofs.state.Core.give_up.Goals as goal

pub returns : goal.returns
returns c = quietly answer.GiveUp c.give_up.ensures.step (search rules) (search rules) (search rules)
