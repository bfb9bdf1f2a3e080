use Rattle.std.proofs.Common.{rules}
use Rattle.priority_channel_core.specs.declared.calls.Answer.TheVariants as answer
use Rattle.priority_channel_c.proofs.Making.{makes}
use Rattle.priority_channel_c.proofs.state.Core.try_send_evicting.Goals as goal

pub returns : goal.returns
returns c = makes (answer.TrySendEvicting c.try_send_evicting-sent.result.0) c.try_send_evicting-sent.ensures.step (search rules) (search rules) (search rules) (search rules)
