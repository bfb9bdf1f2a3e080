use Rattle.std.proofs.Common.{rules, ◌≡◌, Some}
use Rattle.priority_channel_witnessed.specs.Waits.{left, ComesTo, IsCall, at_last, before}
use Rattle.priority_channel_witnessed.proofs.Waits.{gives_of, if_held}
use Rattle.priority_channel_witnessed.proofs.waiting.WaitingWaiterFuture.poll.Goals as goal

pub returns-in-Ok-clause-value : goal.returns-in-Ok-clause-value
returns-in-Ok-clause-value g c =
    gives_of g.P.Ord.cmp _ _ _ g.C.Retry.call_of _ c.args.self.now c.in-Some.pass c.in-Some.call _ (rw (← c.self.view_is) (search rules)) (rw (← c.self.view_is) c.in-Ok.ensures.answered)

pub returns-in-Ok-list-clause-value : goal.returns-in-Ok-list-clause-value
returns-in-Ok-list-clause-value g c =
    gives_of g.P.Ord.cmp _ _ _ g.C.Retry.call_of _ c.args.self.now c.in-Some.pass c.in-Some.call _ (rw (← c.self.view_is) (search rules)) (rw (← c.self.view_is) (c.in-Err.ensures.goes_on _ _ c.in-Ok-list.ensures.answered))

pub returns-in-Err-list-clause-same : goal.returns-in-Err-list-clause-same
returns-in-Err-list-clause-same g c = λ x more.
    let listed = c.in-Err-list.ensures.listed in
    gives_of g.P.Ord.cmp _ _ _ g.C.Retry.call_of _ c.args.self.now c.in-Some.pass c.in-Some.call x (rw (← c.self.view_is) (search rules))
    (rw (← c.self.view_is) (c.in-Err.ensures.goes_on _ _ (before listed.1.2 listed.1.3 (rw c.again.ensures at more))))

pub returns-in-Err-list-clause-waits : goal.returns-in-Err-list-clause-waits
returns-in-Err-list-clause-waits g c =
    let listed = c.in-Err-list.ensures.listed in
    if_held c.args.self.now.holds (c.in-Some.pass, c.in-Some.call)
    (λ held. (rest : g.row.C-Left.Denot) × (c.again.result ≡ g.C.Retry.call_of rest) × ComesTo g.P.Ord.cmp (λ waiter other. other ≡ waiter) g.J.Recording.capacity g.J.Recording.is_reserved g.C.Retry.call_of
    (IsCall g.C.CoreCall.told g.C.Retry.says g.C.Awaited.polled) held.0 held.1 c.args.self.now.ticket (left rest (Some c.in-Err-list.given)) c.list.new.pass)
    (rw (← c.self.view_is) (search rules)) (rw (← c.self.view_is) (c.in-Err-list.rest, c.again.ensures, c.in-Err.ensures.goes_on _ _ (at_last listed.1.2 listed.1.3)))
