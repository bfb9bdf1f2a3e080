use Rattle.std.proofs.Common.{rules}
use Rattle.priority_channel_core.specs.declared.calls.Call.TheVariants as call
use Rattle.priority_channel_core.specs.declared.calls.Answer.TheVariants as answer
use Rattle.priority_channel_c.proofs.Making.{makes_meant}
use Rattle.priority_channel_c.proofs.state.Core.take_priority.Goals as goal

pub returns : goal.returns
returns c = makes_meant (call.TakeWhere c.take_priority-taken.ensures.step.0) (answer.TakeWhere c.take_priority-taken.result.0) c.take_priority-taken.ensures.step.1 (search rules) (search rules) (search rules) (search rules) (search rules)
