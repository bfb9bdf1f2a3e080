use Rattle.priority_channel_calls.proofs.Runs.{makes_one}
use Rattle.priority_channel_witnessed.proofs.Items.{sends_list}
use Rattle.priority_channel_witnessed.proofs.awaited.SendAllCoreCall.make_on.Goals as goal

pub returns-clause-made : goal.returns-clause-made
returns-clause-made g c =
    makes_one g.P.Ord.cmp g.W.Clone.is_clone _ _ _ _ _ (sends_list g.P.Ord.cmp g.W.Clone.is_clone _ _ _ _ _ c.try_sendv.ensures.step)
