use Rattle.priority_channel_core.proofs.Tickets.{own-listed, own-swapped}
use Rattle.priority_channel_core.proofs.awaitable_atomics.AwaitableAtomicCounterAndBit.listen.Goals as goal

pub invariant_of-self : goal.invariant_of-self
invariant_of-self g c =
    let listed = c.listen_beside.ensures in
    own-listed g.W.Clone.is_clone c.self.inside.room_waiters _ c.self.inside.message_waiters _ c.args.ticket _ c.args.waker.now
    c.self.inside.next_ticket _ c.self.invariant listed.listed listed.refused

pub invariant_of-self-in-Message : goal.invariant_of-self-in-Message
invariant_of-self-in-Message g c =
    let listed = c.listen_beside-in-Message.ensures in
    own-swapped _ _ _ (own-listed g.W.Clone.is_clone c.self.inside.message_waiters _ c.self.inside.room_waiters _ c.args.ticket _ c.args.waker.now
    c.self.inside.next_ticket _ (own-swapped _ _ _ c.self.invariant) listed.listed listed.refused)

pub returns-in-Room-clause-tickets : goal.returns-in-Room-clause-tickets
returns-in-Room-clause-tickets g c = invariant_of-self g c

pub returns-in-Message-clause-tickets : goal.returns-in-Message-clause-tickets
returns-in-Message-clause-tickets g c = invariant_of-self-in-Message g c
