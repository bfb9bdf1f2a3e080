use Rattle.std.proofs.Common.{◌<◌, refl}
use Rattle.std.proofs.lemmas.List.Quantifiers.{all_pairs_remove}
use Rattle.priority_channel_core.proofs.Waiting.{remove_rising, rising-with_waker, set_rising}
use Rattle.priority_channel_core.proofs.waiting_list.WaitingList.renew.Goals as goal

pub invariant_of-self-in-Err : goal.invariant_of-self-in-Err
invariant_of-self-in-Err g c =
    rw c.remove.ensures (all_pairs_remove (λ a b. a.0 < b.0) c.self.inside.entries c.args.position (rw c.self.view_is c.requires.in_list) c.self.invariant)

pub invariant_of-self : goal.invariant_of-self
invariant_of-self g c =
    let xs = c.self.inside.entries in
    let written = set_rising xs c.args.ticket c.args.position c.in-Ok.waker c.self.invariant (rw c.self.view_is c.requires.in_list) (rw c.self.view_is c.requires.here) in
    rw (c.set.ensures, written) (rising-with_waker xs c.args.ticket c.in-Ok.waker c.self.invariant)

pub returns-in-Ok-clause-renewed : goal.returns-in-Ok-clause-renewed
returns-in-Ok-clause-renewed g c =
    (refl, (c.in-Ok.waker, c.in-Ok.ensures.cases, rw (c.set.ensures, ← c.self.view_is) (set_rising c.self.inside.entries c.args.ticket c.args.position c.in-Ok.waker c.self.invariant (rw c.self.view_is c.requires.in_list) (rw c.self.view_is c.requires.here))))

pub returns-in-Err-clause-refused : goal.returns-in-Err-clause-refused
returns-in-Err-clause-refused g c =
    rw (c.remove.ensures, ← c.self.view_is) (remove_rising c.self.inside.entries c.args.ticket c.args.position c.self.invariant (rw c.self.view_is c.requires.in_list) (rw c.self.view_is c.requires.here))
