use Rattle.std.proofs.Common.{refl, rules}
use Rattle.priority_channel_core.specs.Prelude.{state_of, Does, Change}
use Rattle.priority_channel_core.proofs.Evicting.{good_frees, frees_one, sound_freed}
use Rattle.priority_channel_core.proofs.channel.PriorityQueueChannel.try_recv_where.Goals as goal

pub returns-in-Some-clause-received : goal.returns-in-Some-clause-received
returns-in-Some-clause-received g c =
    let own = c.self.inside in
    let (one, greatest) = c.in-Some.ensures.taken in
    let old = state_of own.bag own.word.word own.capacity own.is_reserved own.sender_count own.receiver_count in
    let new = state_of c.take_greatest_where.new.self c.decr-wakes.new.self.word own.capacity own.is_reserved own.sender_count own.receiver_count in
    let frees : Does old c.decr-wakes.result.1 new (Change.GoesOut new.pending) = frees_one own.bag c.take_greatest_where.new.self own.word.word c.decr-wakes.new.self.word c.decr-wakes.result.1 own.capacity own.is_reserved own.sender_count own.receiver_count
    c.self.invariant c.in-Some.pair one (search rules) c.decr-wakes.ensures.handed c.decr-wakes.ensures.word in
    rw (← c.self.view_is) (
      one,
      record {
        moves = (one, refl, frees);
        good = good_frees old new c.decr-wakes.result.1 frees c.in-Some.pair one c.self.invariant.good c.decr-wakes.ensures.tickets;
      },
      greatest,
    )

pub invariant_of-self : goal.invariant_of-self
invariant_of-self g c =
    let own = c.self.inside in
    sound_freed own.bag c.take_greatest_where.new.self own.word.word c.decr-wakes.new.self.word c.decr-wakes.result.1 own.capacity own.is_reserved own.sender_count own.receiver_count
    c.self.invariant c.in-Some.pair c.in-Some.ensures.taken.0 (search rules) (search rules) c.decr-wakes.ensures.handed c.decr-wakes.ensures.word c.decr-wakes.ensures.tickets

pub returns-in-None-clause-kept : goal.returns-in-None-clause-kept
returns-in-None-clause-kept g c = (search rules, search rules, search rules, rw (← c.self.view_is) c.in-None.ensures.none)
