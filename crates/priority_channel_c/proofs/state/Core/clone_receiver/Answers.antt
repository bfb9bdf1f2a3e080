use Rattle.std.proofs.Common.{rules}
use Rattle.priority_channel_core.specs.declared.calls.Answer.TheVariants as answer
use Rattle.priority_channel_c.proofs.Making.{quietly}
use Rattle.priority_channel_c.proofs.state.Core.clone_receiver.Goals as goal

pub returns : goal.returns
returns c = quietly (answer.CloneReceiver c.clone_receiver-is_counted.result) c.clone_receiver-is_counted.ensures.step (search rules) (search rules) (search rules)
