use Rattle.std.proofs.Common.{length, refl, rules}
use Rattle.priority_channel_core.specs.Prelude.{state_of}
use Rattle.priority_channel_core.proofs.Evicting.{good_lends}
use Rattle.priority_channel_core.proofs.channel.PriorityQueueChannel.try_lease_where.Goals as goal

pub returns-in-Some-clause-step : goal.returns-in-Some-clause-step
returns-in-Some-clause-step g c =
    let own = c.self.inside in
    let taken = c.in-Some.ensures.taken.0 in
    let old = state_of own.bag own.word.word own.capacity own.is_reserved own.sender_count own.receiver_count in
    let new = state_of c.take_greatest_where.new.self c.lend.new.self.word own.capacity own.is_reserved own.sender_count own.receiver_count in (
      length taken.before,
      record {
        moves = rw (← c.self.view_is) (taken, refl, (refl, search rules));
        good = good_lends old new c.in-Some.pair taken c.self.invariant.good (search rules) (search rules) (search rules);
      },
    )

pub returns-in-Some-clause-leased : goal.returns-in-Some-clause-leased
returns-in-Some-clause-leased g c = rw (← c.self.view_is) c.in-Some.ensures.taken

pub returns-in-None-clause-none : goal.returns-in-None-clause-none
returns-in-None-clause-none g c = rw (← c.self.view_is) c.in-None.ensures.none
