use Rattle.priority_channel_waiting.proofs.guarded.Guarded.listen.Goals as goal
use Rattle.priority_channel_waiting.proofs.guarded.Guarded.listen.Goals.{in-Some, in-None}

pub invariant_of-self : goal.invariant_of-self
invariant_of-self g c = elim c.match-self-2.branch [
  | in-Some w ↦ rw w.self-inside-is w.listen.ensures.seen
  | in-None w ↦ rw (w.self-inside-is, w.in-None.is) tt
]
