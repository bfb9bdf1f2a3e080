use Rattle.std.proofs.Common.{rules}
use Rattle.priority_channel_core.specs.declared.calls.Call.TheVariants as call
use Rattle.priority_channel_core.specs.declared.calls.Answer.TheVariants as answer
use Rattle.priority_channel_c.proofs.Making.{quietly_meant}
use Rattle.priority_channel_c.proofs.state.Core.change_priority.Goals as goal

pub returns : goal.returns
returns c = quietly_meant (call.ChangePriority c.change_priority-changed.ensures.step.0 c.args.priority) (answer.ChangePriority c.change_priority-changed.result) c.change_priority-changed.ensures.step.1 (search rules) (search rules) (search rules) (search rules)
