use Rattle.std.proofs.Common.{◌∙◌, ◌<◌, sym, rules}
use Rattle.priority_channel_waiting.proofs.Lines.{all_behind}
use Rattle.priority_channel_waiting.proofs.line.Line.move_up.Goals as goal

pub invariant_of-self : goal.invariant_of-self
invariant_of-self g c =
    let inside = c.self.inside in
    let taken = c.take_first.ensures.taken in (
      (λ none. let same = rw none at taken in let nobody = rw none at c.take_first.ensures.nobody in (sym same ∙ nobody, search rules)),
      all_behind (λ other. other.0 < inside.next_number) c.take_first.result c.take_first.new.self (rw (← taken) c.self.invariant.1),
    )
