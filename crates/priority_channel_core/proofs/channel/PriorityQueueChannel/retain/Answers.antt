use Rattle.std.proofs.Common.{◌≡◌, ◌-◌, length, ap, arith, rules}
use Rattle.priority_channel_core.specs.Prelude.{state_of}
use Rattle.priority_channel_core.proofs.Taking.{all_length, retained, takes_in_turn}
use Rattle.priority_channel_core.proofs.channel.PriorityQueueChannel.retain.Goals as goal

pub overflow_sub-before : goal.overflow_sub-before
overflow_sub-before g c =
    let out = c.retain.ensures.taken in
    omega (arith, all_length _ out.0 _ out.2, c.len-before.ensures, c.len.ensures)

pub invariant_of-self : goal.invariant_of-self
invariant_of-self g c =
    let own = c.self.inside in
    let old = state_of own.bag own.word.word own.capacity own.is_reserved own.sender_count own.receiver_count in
    let new = state_of c.retain.new.self c.decr_many-wakes.new.self.word own.capacity own.is_reserved own.sender_count own.receiver_count in
    let out = c.retain.ensures.taken in
    let long = all_length _ out.0 _ out.2 in
    record {
      counted = omega (arith, ap (λ w. w.count) c.decr_many-wakes.ensures.word, c.self.invariant.counted, long, c.len-before.ensures, c.len.ensures);
      slots_held = omega (arith, ap (λ w. w.held) c.decr_many-wakes.ensures.word, c.self.invariant.slots_held, long, ap (λ b. b.slots) c.retain.ensures.same);
      slots_kept = λ reserved. omega (arith, c.self.invariant.slots_kept reserved, ap (λ b. b.slots) c.retain.ensures.same);
      good =
          (takes_in_turn g.P.Ord.cmp g.W.Clone.is_clone old new out.0 _ c.decr_many-wakes.result.1 (omega (arith, long, c.len-before.ensures, c.len.ensures)) out.2
          c.decr_many-wakes.ensures.handed
          (retained own.bag c.retain.new.self own.word.word c.decr_many-wakes.new.self.word own.capacity own.is_reserved own.sender_count own.receiver_count _ c.decr_many-wakes.ensures.word (search rules)
          (omega (arith, long, c.self.invariant.counted, c.len-before.ensures, c.len.ensures))) c.self.invariant.good c.decr_many-wakes.ensures.tickets).1;
    }

pub returns-clause-good : goal.returns-clause-good
returns-clause-good g c = (invariant_of-self g c).good

pub returns-clause-taken : goal.returns-clause-taken
returns-clause-taken g c =
    let own = c.self.inside in
    let old = state_of own.bag own.word.word own.capacity own.is_reserved own.sender_count own.receiver_count in
    let new = state_of c.retain.new.self c.decr_many-wakes.new.self.word own.capacity own.is_reserved own.sender_count own.receiver_count in
    let out = c.retain.ensures.taken in
    let count : c.len-before.result - c.len.result ≡ length out.0 = omega (arith, all_length _ out.0 _ out.2, c.len-before.ensures, c.len.ensures) in
    let long = all_length _ out.0 _ out.2 in
    let taken = takes_in_turn g.P.Ord.cmp g.W.Clone.is_clone old new out.0 _ c.decr_many-wakes.result.1 count out.2 c.decr_many-wakes.ensures.handed
    (retained own.bag c.retain.new.self own.word.word c.decr_many-wakes.new.self.word own.capacity own.is_reserved own.sender_count own.receiver_count _ c.decr_many-wakes.ensures.word (search rules)
    (omega (arith, long, c.self.invariant.counted, c.len-before.ensures, c.len.ensures)))
    c.self.invariant.good c.decr_many-wakes.ensures.tickets in
    (out.0, out.1, rw (← c.self.view_is) taken.0, out.3)
