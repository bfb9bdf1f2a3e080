use Rattle.std.proofs.Common.{rules}
use Rattle.priority_channel_core.specs.declared.calls.Answer.TheVariants as answer
use Rattle.priority_channel_c.proofs.Making.{makes}
use Rattle.priority_channel_c.proofs.state.Core.free.Goals as goal

pub returns : goal.returns
returns c = makes (answer.Free c.free-was_held.result.0) c.free-was_held.ensures.step (search rules) (search rules) (search rules) (search rules)
