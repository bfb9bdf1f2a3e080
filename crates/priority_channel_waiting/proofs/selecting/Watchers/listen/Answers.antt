use Rattle.priority_channel_waiting.proofs.Closers.{below-listed, below-without}
use Rattle.priority_channel_waiting.proofs.selecting.Watchers.listen.Goals as goal
use Rattle.priority_channel_waiting.proofs.selecting.Watchers.listen.Goals.{in-Some-listed, in-None}

pub invariant_of-self : goal.invariant_of-self
invariant_of-self g c =
    let inside = c.self.inside in
    let new = c.listen-listed.new in
    let ensures = c.listen-listed.ensures in
    elim c.match-listed.branch [
      | in-Some-listed w ↦
          let listed = rw w.in-Some-listed.is at ensures.listed in
          below-listed inside.waiters new.self c.args.ticket listed.0 inside.next_ticket new.next_ticket _ c.self.invariant listed.2
      | in-None w ↦
          let refused = rw w.in-None.is at ensures.refused in
          rw (refused.0, refused.1) (below-without inside.waiters c.args.ticket inside.next_ticket c.self.invariant)
    ]
