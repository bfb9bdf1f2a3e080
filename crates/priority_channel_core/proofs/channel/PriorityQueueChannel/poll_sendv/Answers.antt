use Rattle.std.proofs.Common.{refl}
use Rattle.std.specs.Iterator.Adapters.{peekable_can}
use Rattle.priority_channel_core.proofs.Sends.{none_or_accepted}
use Rattle.priority_channel_core.specs.Prelude.{HasList}
use Rattle.priority_channel_core.proofs.Polls.{performs_poll, kept_callable, polls_front, listed_for_room}
use Rattle.priority_channel_core.proofs.channel.PriorityQueueChannel.poll_sendv.Goals as goal

pub returns-clause-step : goal.returns-clause-step
returns-clause-step g c =
    let ended = c.end_send.ensures in
    performs_poll (HasList g.I.Iterator.next_gives) g.W.Clone.is_clone g.P.Ord.cmp c.args.self.now.state c.try_sendv-reply.new.self.state c.end_send.new.self.state
    c.try_sendv-reply.result.1 c.args.msgs c.args.ticket ended.ends.0 c.args.waker.now c.try_sendv-reply.result.0 c.end_send.result c.try_sendv-reply.ensures.step
    ended.ends.1 ended.ends.2 ended.good

pub returns-clause-callable : goal.returns-clause-callable
returns-clause-callable g c =
    kept_callable (peekable_can g.I.Iterator.can_next) c.try_sendv-reply.result.0 c.end_send.ensures.ends.0 c.end_send.result
    c.try_sendv-reply.ensures.callable c.end_send.ensures.ends.1

pub returns-clause-renewed : goal.returns-clause-renewed
returns-clause-renewed g c = λ listed infallible.
    let found = listed_for_room c.args.self.now.state (rw (← c.self.view_is) c.self.invariant.good) c.args.ticket listed in
    let full = c.try_sendv-reply.ensures.no_room found.0 found.1 in
    let renewed = rw full.0 at c.end_send.ensures.renewed in
    renewed (rw full.1 listed) infallible

pub returns-clause-front : goal.returns-clause-front
returns-clause-front g c =
    let tried = c.try_sendv-reply.ensures.front in
    let ended = c.end_send.ensures in
    let old = c.args.self.now.state in let mid = c.try_sendv-reply.new.self.state in
    polls_front g.W.Clone.is_clone c.args.self.now c.try_sendv-reply.new.self c.end_send.new.self c.args.ticket ended.ends.0 c.args.waker.now tried.0
    c.try_sendv-reply.result.1 tried.1 ended.ends.2
    (none_or_accepted old mid c.try_sendv-reply.result.1 old.is_closed refl tried.0 c.try_sendv-reply.ensures.good tried.1 (λ closed. (c.try_sendv-reply.ensures.closed closed).1))
    tried.2 ended.cost
