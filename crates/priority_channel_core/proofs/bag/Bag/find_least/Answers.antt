use Rattle.std.proofs.Common.{refl}
use Rattle.priority_channel_core.proofs.items.Kept.{kept_moved, pending_moved}
use Rattle.priority_channel_core.proofs.bag.Bag.find_least.Goals as goal

pub invariant_of-self : goal.invariant_of-self
invariant_of-self g c =
    let was = c.self.inside.heap in
    let r = c.arrange in
    kept_moved g.met.P.Ord.total was.has_two_ends was.items.items _ c.self.invariant r.new.self.has_two_ends r.new.self.items.items r.ensures.moves r.ensures.order

pub returns-then-not-self-clause-same : goal.returns-then-not-self-clause-same
returns-then-not-self-clause-same g c =
    let was = c.self.inside.heap in
    let r = c.arrange in
    rw (pending_moved g.met.P.Ord.total was.has_two_ends was.items.items _ c.self.invariant r.new.self.items.items r.ensures.moves, r.ensures.slots, r.ensures.ends, ← c.self.view_is) refl
