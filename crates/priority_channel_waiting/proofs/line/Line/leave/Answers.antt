use Rattle.std.proofs.Common.{◌==◌, ◌<◌, not, refl}
use Rattle.std.proofs.lemmas.List.Elements.{All-filter}
use Rattle.priority_channel_waiting.proofs.line.Line.leave.Goals as goal

pub invariant_of-self : goal.invariant_of-self
invariant_of-self g c =
    let inside = c.self.inside in
    rw c.remove.ensures.list (
      (λ none. let nobody = c.self.invariant.0 none in ((rw nobody.0 refl), nobody.1)),
      All-filter (λ other. not (other.0 == c.args.queued.number)) (λ other. other.0 < inside.next_number) inside.others c.self.invariant.1,
    )
