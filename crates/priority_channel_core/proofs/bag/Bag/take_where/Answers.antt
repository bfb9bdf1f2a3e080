use Rattle.std.proofs.Common.{◌<◌, List, length, false, true, get_or, slice_index_or, sym, ap, subst, ◌∙◌, All}
use Rattle.priority_channel_core.specs.bag.Prelude.{Item, pair_of, Tells}
use Rattle.priority_channel_core.proofs.items.Kept.{kept_without, takes_one, of_pairs}
use Rattle.priority_channel_core.proofs.bag.Bag.take_where.Goals as goal

pub returns-in_err-at-clause-none : goal.returns-in_err-at-clause-none
returns-in_err-at-clause-none g c =
    let xs = c.self.inside.heap.items.items in
    let each : All (λ pair. Tells g.F.Fn c.args.test.now pair false) c.args.self.now.pending =
    rw (← c.self.view_is) (of_pairs (λ pair. Tells g.F.Fn c.args.test.now pair false) xs
    (λ k d p. subst (λ (l : List (Item g.row.T.Denot g.row.P.Denot)). Tells g.F.Fn c.args.test.now (pair_of (get_or l k d)) false) c.as_slice.ensures.value
    (c.in_err-at.ensures.none k d (subst (λ (l : List (Item g.row.T.Denot g.row.P.Denot)). k < length l) (sym c.as_slice.ensures.value) p)))) in
    rw c.from_residual.ensures each

pub invariant_of-self : goal.invariant_of-self
invariant_of-self g c =
    let was = c.self.invariant in
    let r = c.remove in
    kept_without g.met.P.Ord.total c.self.inside.heap.items.items r.new.self.items.items r.result was.apart r.ensures.moves _ was.numbered r.new.self.has_two_ends (r.ensures.order was.order)

pub returns-clause-taken : goal.returns-clause-taken
returns-clause-taken g c =
    let was = c.self.invariant in
    let r = c.remove in
    rw (← c.self.view_is, c.into_pair.ensures)
    (takes_one g.met.P.Ord.total c.self.inside.heap.items.items r.new.self.items.items r.result was.apart r.ensures.moves)

pub returns-clause-meets : goal.returns-clause-meets
returns-clause-meets g c =
    let r = c.remove in
    rw c.into_pair.ensures (subst (λ x. Tells g.F.Fn c.args.test.now (pair_of x) true)
    (ap (λ (l : List (Item g.row.T.Denot g.row.P.Denot)). slice_index_or l c.in_ok-at.at r.result) c.as_slice.ensures.value ∙ sym r.ensures.item)
    (c.in_ok-at.ensures.found r.result))
