use Rattle.priority_channel_calls.proofs.Runs.{makes_one}
use Rattle.priority_channel_witnessed.proofs.Items.{polls_list}
use Rattle.priority_channel_witnessed.proofs.awaited.SendAllAwaited.poll_on.Goals as goal

pub returns-clause-made : goal.returns-clause-made
returns-clause-made g c =
    rw (← c.send_polled.ensures) (makes_one g.P.Ord.cmp g.W.Clone.is_clone _ _ _ _ _ (polls_list g.P.Ord.cmp g.W.Clone.is_clone _ _ _ _ _ _ _ c.poll_sendv-polled.ensures.step))
