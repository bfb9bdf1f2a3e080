use Rattle.std.proofs.Common.{rules}
use Rattle.priority_channel_core.specs.declared.calls.Answer.TheVariants as answer
use Rattle.priority_channel_c.proofs.Making.{quietly}
use Rattle.priority_channel_c.proofs.state.Core.clone_sender.Goals as goal

pub returns : goal.returns
returns c = quietly (answer.CloneSender c.clone_sender-is_counted.result) c.clone_sender-is_counted.ensures.step (search rules) (search rules) (search rules)
