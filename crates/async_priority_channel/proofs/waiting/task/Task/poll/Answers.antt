use Rattle.async_priority_channel.proofs.HandedBack.{hands_back_after, later}
use Rattle.async_priority_channel.proofs.waiting.task.Task.poll.Goals as goal

pub returns-in-Pending-clause-handed_back : goal.returns-in-Pending-clause-handed_back
returns-in-Pending-clause-handed_back g c =
    hands_back_after g.K.Polled.can_poll g.K.Polled.leaves g.K.Polled.still g.K.Polled.back c.args.self.now.state c.poll.new.state _
    (rw c.in-Pending.is at c.poll.ensures.waits) c.poll.ensures.left c.wait-in-Pending.ensures.handed_back

pub returns-in-Pending-clause-left : goal.returns-in-Pending-clause-left
returns-in-Pending-clause-left g c =
    later g.K.Polled.can_poll g.K.Polled.leaves g.K.Polled.still g.K.Polled.back c.args.self.now.state.kept c.poll.new.state.kept _
    (rw c.in-Pending.is at c.poll.ensures.waits) c.poll.ensures.left c.wait-in-Pending.ensures.left
