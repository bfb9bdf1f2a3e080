use Rattle.priority_channel_waiting.proofs.Soughts.{when_found, when_over}
use Rattle.priority_channel_waiting.proofs.guarded.Guarded.seek_or_list.Goals as goal

pub returns-in_default-clause-made : goal.returns-in_default-clause-made
returns-in_default-clause-made g c =
    rw (← c.self.view_is) (when_found g.P.Ord.cmp _ _ _ _ (g.S.Seek.told c.args.seek.now) c.seek-sought.result.0 c.seek-sought.ensures.made)

pub returns-in_default-clause-over : goal.returns-in_default-clause-over
returns-in_default-clause-over g c =
    rw (← c.self.view_is) (when_over g.P.Ord.cmp _ _ _ _ (g.S.Seek.told c.args.seek.now) c.seek-sought.result.0 c.seek-sought.ensures.made)
