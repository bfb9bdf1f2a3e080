use Rattle.std.proofs.Common.{length, arith, refl, rules}
use Rattle.priority_channel_core.specs.Prelude.{state_of, Does, Change}
use Rattle.priority_channel_core.proofs.Evicting.{good_frees, frees_one, sound_freed}
use Rattle.priority_channel_core.proofs.channel.PriorityQueueChannel.take_where.Goals as goal

pub returns-in-Some-clause-step : goal.returns-in-Some-clause-step
returns-in-Some-clause-step g c =
    let own = c.self.inside in
    let taken = c.in-Some.ensures.taken in
    let old = state_of own.bag own.word.word own.capacity own.is_reserved own.sender_count own.receiver_count in
    let new = state_of c.take_where.new.self c.decr-wakes.new.self.word own.capacity own.is_reserved own.sender_count own.receiver_count in
    let frees : Does old c.decr-wakes.result.1 new (Change.GoesOut new.pending) = frees_one own.bag c.take_where.new.self own.word.word c.decr-wakes.new.self.word c.decr-wakes.result.1 own.capacity own.is_reserved own.sender_count own.receiver_count
    c.self.invariant c.in-Some.pair taken (search rules) c.decr-wakes.ensures.handed c.decr-wakes.ensures.word in (
      length taken.before,
      record {
        moves = rw (← c.self.view_is) (taken, refl, frees);
        good = good_frees old new c.decr-wakes.result.1 frees c.in-Some.pair taken c.self.invariant.good c.decr-wakes.ensures.tickets;
      },
    )

pub returns-in-None-clause-step : goal.returns-in-None-clause-step
returns-in-None-clause-step g c = (
  length c.args.self.now.state.pending,
  record { moves = (omega arith, search rules); good = search rules },
)

pub returns-in-None-clause-none : goal.returns-in-None-clause-none
returns-in-None-clause-none g c = rw (← c.self.view_is) c.in-None.ensures.none

pub invariant_of-self : goal.invariant_of-self
invariant_of-self g c =
    let own = c.self.inside in
    sound_freed own.bag c.take_where.new.self own.word.word c.decr-wakes.new.self.word c.decr-wakes.result.1 own.capacity own.is_reserved own.sender_count own.receiver_count
    c.self.invariant c.in-Some.pair c.in-Some.ensures.taken (search rules) (search rules) c.decr-wakes.ensures.handed c.decr-wakes.ensures.word c.decr-wakes.ensures.tickets
