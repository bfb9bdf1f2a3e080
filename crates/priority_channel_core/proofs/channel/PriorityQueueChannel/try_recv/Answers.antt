use Rattle.std.proofs.Common.{rules}
use Rattle.priority_channel_core.specs.bag.Prelude.{TakesOne}
use Rattle.priority_channel_core.specs.Prelude.{state_of, Does, Change}
use Rattle.priority_channel_core.proofs.Evicting.{good_frees, frees_one, sound_freed}
use Rattle.priority_channel_core.proofs.channel.PriorityQueueChannel.try_recv.Goals as goal

pub returns-in-Some-clause-step : goal.returns-in-Some-clause-step
returns-in-Some-clause-step g c =
    let own = c.self.inside in
    let taken = c.in-Some.ensures.taken in
    let old = state_of own.bag own.word.word own.capacity own.is_reserved own.sender_count own.receiver_count in
    let new = state_of c.pop.new.self c.decr-wakes.new.self.word own.capacity own.is_reserved own.sender_count own.receiver_count in
    let one : TakesOne old.pending c.in-Some.pair new.pending = search rules in
    let frees : Does old c.decr-wakes.result.1 new (Change.GoesOut new.pending) = frees_one own.bag c.pop.new.self own.word.word c.decr-wakes.new.self.word c.decr-wakes.result.1 own.capacity own.is_reserved own.sender_count own.receiver_count
    c.self.invariant c.in-Some.pair one (search rules) c.decr-wakes.ensures.handed c.decr-wakes.ensures.word in
    record {
      moves = rw (← c.self.view_is) (taken, frees);
      good = good_frees old new c.decr-wakes.result.1 frees c.in-Some.pair one c.self.invariant.good c.decr-wakes.ensures.tickets;
    }

pub invariant_of-self : goal.invariant_of-self
invariant_of-self g c =
    let own = c.self.inside in
    sound_freed own.bag c.pop.new.self own.word.word c.decr-wakes.new.self.word c.decr-wakes.result.1 own.capacity own.is_reserved own.sender_count own.receiver_count
    c.self.invariant c.in-Some.pair (search rules) (search rules) (search rules) c.decr-wakes.ensures.handed c.decr-wakes.ensures.word c.decr-wakes.ensures.tickets

pub returns-after-is_closed-clause-step : goal.returns-after-is_closed-clause-step
returns-after-is_closed-clause-step g c = search rules
