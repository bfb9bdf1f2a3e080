use Rattle.std.proofs.Common.{Some}
use Rattle.priority_channel_core.proofs.Tickets.{own-room, own-message, follows-without}
use Rattle.priority_channel_core.proofs.awaitable_atomics.AwaitableAtomicCounterAndBit.unlisten.Goals as goal

pub invariant_of-self : goal.invariant_of-self
invariant_of-self g c =
    let own = c.self.invariant in
    rw (c.remove.ensures.list, c.remove-2.ensures.list) (own-message _ _ _ _ _
    (own-room _ _ _ _ _ own (follows-without c.self.inside.room_waiters (Some c.args.ticket) c.self.inside.next_ticket own.room_rises own.room_given))
    (follows-without c.self.inside.message_waiters (Some c.args.ticket) c.self.inside.next_ticket own.message_rises own.message_given))

pub returns-clause-tickets : goal.returns-clause-tickets
returns-clause-tickets g c = invariant_of-self g c
