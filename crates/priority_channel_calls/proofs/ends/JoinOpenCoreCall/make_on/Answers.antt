use Rattle.std.proofs.Common.{false}
use Rattle.priority_channel_core.specs.declared.calls.Call.TheVariants as call
use Rattle.priority_channel_core.specs.declared.calls.Answer.TheVariants as answer
use Rattle.priority_channel_core.specs.Prelude.{nobody}
use Rattle.priority_channel_calls.proofs.Runs.{makes_after}
use Rattle.priority_channel_calls.proofs.ends.JoinOpenCoreCall.make_on.Goals as goal

pub returns-in-Room-clause-made : goal.returns-in-Room-clause-made
returns-in-Room-clause-made g c =
    rw (c.in-Room.is, c.nobody-in-Room.ensures) (makes_after g.P.Ord.cmp g.W.Clone.is_clone _ _ nobody _ call.IsClosed call.CloneSender
    (answer.IsClosed false) (answer.CloneSender c.clone_sender.result)
    (rw c.if-is_closed.false at c.is_closed.ensures.step) c.clone_sender.ensures.step)

pub returns-in-Message-clause-made : goal.returns-in-Message-clause-made
returns-in-Message-clause-made g c =
    rw (c.in-Message.is, c.nobody-in-Message.ensures) (makes_after g.P.Ord.cmp g.W.Clone.is_clone _ _ nobody _ call.IsClosed call.CloneReceiver
    (answer.IsClosed false) (answer.CloneReceiver c.clone_receiver.result)
    (rw c.if-is_closed.false at c.is_closed.ensures.step) c.clone_receiver.ensures.step)
