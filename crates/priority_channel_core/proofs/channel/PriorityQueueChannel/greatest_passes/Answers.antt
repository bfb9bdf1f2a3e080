use Rattle.std.proofs.Common.{refl, sym, ◌∙◌}
use Rattle.priority_channel_core.specs.bag.Prelude.{Tells}
use Rattle.priority_channel_core.proofs.items.Extremes.{one_greatest}
use Rattle.priority_channel_core.proofs.Lists.{has_item}
use Rattle.priority_channel_core.proofs.channel.PriorityQueueChannel.greatest_passes.Goals as goal

pub returns-in-Some-clause-passes : goal.returns-in-Some-clause-passes
returns-in-Some-clause-passes g c is greatest rest takes =
    let told : Tells g.F.Fn c.args.test.now (c.in-Some.msg.now, c.in-Some.priority.now) c.test.result = record { msg = _; priority = _; shows = (refl, refl); says = record { met = c.test.ensures } } in
    let same = one_greatest g.met.P.Ord.total _ _ _ _ _ c.in-Some.ensures.1 takes in
    rw (← same.0) (rw is at told)

pub returns-in-Some-clause-fails : goal.returns-in-Some-clause-fails
returns-in-Some-clause-fails g c is =
    let told : Tells g.F.Fn c.args.test.now (c.in-Some.msg.now, c.in-Some.priority.now) c.test.result = record { msg = _; priority = _; shows = (refl, refl); says = record { met = c.test.ensures } } in
    (_, c.in-Some.ensures.0, c.in-Some.ensures.1, rw is at told)

pub returns-in-None-clause-passes : goal.returns-in-None-clause-passes
returns-in-None-clause-passes g c is greatest rest takes =
    absurd (has_item takes.before _ _ (sym takes.split ∙ c.in-None.ensures))
