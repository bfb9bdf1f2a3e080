use Rattle.priority_channel_waiting.proofs.Seen.{all_seen_without}
use Rattle.priority_channel_waiting.proofs.guarded.Guarded.unlist.Goals as goal
use Rattle.priority_channel_waiting.proofs.guarded.Guarded.unlist.Goals.{in-Some, in_default}

pub invariant_of-self : goal.invariant_of-self
invariant_of-self g c = elim c.match-self.branch [
  | in-Some w ↦
      let seen = rw w.in-Some.is at c.self.invariant in
      rw (w.self-inside-is, w.unlisten.ensures, w.deref_mut.ensures.value) (all_seen_without c.self.inside.core c.args.ticket c.args.sight _ seen)
  | in_default w ↦ rw w.self-inside-is c.self.invariant
]
