use Rattle.std.proofs.Common.{◌==◌, ◌<◌, not}
use Rattle.std.proofs.lemmas.List.Elements.{All-filter}
use Rattle.priority_channel_waiting.proofs.selecting.Watchers.unlisten.Goals as goal

pub invariant_of-self : goal.invariant_of-self
invariant_of-self g c =
    let inside = c.self.inside in
    rw c.remove.ensures.list (All-filter (λ waiter. not (waiter.0 == c.args.ticket)) (λ waiter. waiter.0 < inside.next_ticket) inside.waiters c.self.invariant)
