use Rattle.priority_channel_core.specs.Prelude.{HasList}
use Rattle.priority_channel_waiting.specs.Waits.{unsent_in_time}
use Rattle.priority_channel_waiting.specs.Holding.{HoldsTail}
use Rattle.priority_channel_waiting.proofs.LeftOver.{held_by_error}
use Rattle.async_priority_channel.proofs.blocking.Sender+T+P+R+A.sendv_timeout.Goals as goal

pub returns-in_err-wait-clause-handed_back : goal.returns-in_err-wait-clause-handed_back
returns-in_err-wait-clause-handed_back g c =
    held_by_error (HoldsTail (HasList g.I.Iterator.next_gives) c.args.msgs) _ unsent_in_time _ c.from_residual.result c.from_residual.ensures.1 c.in_err-wait.ensures.1
