use Rattle.std.proofs.Common.{rules}
use Rattle.priority_channel_core.specs.declared.calls.Answer.TheVariants as answer
use Rattle.priority_channel_c.proofs.Making.{quietly}
use Rattle.priority_channel_c.proofs.state.Core.try_reserve.Goals as goal

pub returns : goal.returns
returns c = quietly (answer.TryReserve c.try_reserve-reserved.result) c.try_reserve-reserved.ensures.step (search rules) (search rules) (search rules)
