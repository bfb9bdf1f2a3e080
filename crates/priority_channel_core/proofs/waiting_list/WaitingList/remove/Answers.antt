use Rattle.std.proofs.Common.{◌<◌, sym, rules}
use Rattle.std.proofs.lemmas.List.Quantifiers.{all_pairs_remove}
use Rattle.priority_channel_core.proofs.Waiting.{remove_rising, without_unlisted}
use Rattle.priority_channel_core.proofs.waiting_list.WaitingList.remove.Goals as goal

pub invariant_of-self : goal.invariant_of-self
invariant_of-self g c =
    rw c.remove.ensures (all_pairs_remove (λ a b. a.0 < b.0) c.self.inside.entries c.in-Some.position (rw c.self.view_is c.in-Some.ensures.found.0) c.self.invariant)

pub returns-in-Some-clause-list : goal.returns-in-Some-clause-list
returns-in-Some-clause-list g c =
    rw (c.remove.ensures, ← c.self.view_is) (remove_rising c.self.inside.entries c.args.ticket c.in-Some.position c.self.invariant (rw c.self.view_is c.in-Some.ensures.found.0) (rw c.self.view_is c.in-Some.ensures.found.1))

pub returns-in_default-clause-list : goal.returns-in_default-clause-list
returns-in_default-clause-list g c = sym (without_unlisted c.args.self.now c.args.ticket (search rules))
