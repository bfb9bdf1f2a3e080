use Rattle.std.proofs.Common.{rules}
use Rattle.priority_channel_core.specs.declared.calls.Answer.TheVariants as answer
use Rattle.priority_channel_c.proofs.Making.{makes}
use Rattle.priority_channel_c.proofs.state.Core.drop_sender.Goals as goal

pub returns : goal.returns
returns c = record {
  some = λ _. makes answer.DropSender c.drop_sender-wakes.ensures.step (search rules) (search rules) (search rules) (search rules);
  none = λ none. absurd (search rules);
}
