use Rattle.std.proofs.Common.{[], ◌∷◌, ◌++◌, refl, ap, ◌∙◌}
use Rattle.priority_channel_core.specs.bag.Prelude.{Contents}
use Rattle.priority_channel_core.proofs.items.Kept.{kept_with, pending_with}
use Rattle.priority_channel_core.proofs.bag.Bag.push.Goals as goal

pub invariant_of-self : goal.invariant_of-self
invariant_of-self g c =
    let xs = c.self.inside.heap.items.items in
    let was = c.self.invariant in
    kept_with g.met.P.Ord.total xs c.push.new.self.items.items _ _ was.apart was.numbered refl c.push.ensures.moves c.push.new.self.has_two_ends (c.push.ensures.order was.order)

pub returns-clause-pending : goal.returns-clause-pending
returns-clause-pending g c =
    let xs = c.self.inside.heap.items.items in
    let was = c.self.invariant in
    pending_with g.met.P.Ord.total xs c.push.new.self.items.items _ _ was.apart was.numbered refl c.push.ensures.moves
    ∙ ap (λ (b : Contents g.row.T.Denot g.row.P.Denot). b.pending ++ (c.args.msg, c.args.priority) ∷ []) c.self.view_is
