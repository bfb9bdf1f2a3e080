use Rattle.std.proofs.Common.{rules}
use Rattle.priority_channel_core.specs.declared.calls.Answer.TheVariants as answer
use Rattle.priority_channel_c.proofs.Making.{makes_equal}
use Rattle.priority_channel_c.proofs.state.Core.poll_recv.Goals as goal

pub returns : goal.returns
returns c = makes_equal (answer.PollRecv c.poll_recv-received.result.0) (search rules) c.poll_recv-received.ensures.step (search rules) (search rules) (search rules) (search rules)
