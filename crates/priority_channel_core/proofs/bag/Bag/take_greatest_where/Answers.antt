use Rattle.std.proofs.Common.{◌≡◌, ℕ, ◌<◌, List, length, false, true, get_or, slice_index_or, sym, ap, subst, ◌∙◌, All, is_gt}
use Rattle.std.proofs.lemmas.List.{get_or_default}
use Rattle.std.proofs.lemmas.List.Elements.{recursion_from_All}
use Rattle.priority_channel_core.specs.bag.Prelude.{Item, item_cmp, pair_of, Tells}
use Rattle.priority_channel_core.proofs.items.Kept.{kept_without, takes_one, passes_greatest, of_pairs}
use Rattle.priority_channel_core.proofs.bag.Bag.take_greatest_where.Goals as goal

pub returns-in_err-at-clause-none : goal.returns-in_err-at-clause-none
returns-in_err-at-clause-none g c =
    let xs = c.self.inside.heap.items.items in
    let each : All (λ pair. Tells g.F.Fn c.args.test.now pair false) c.args.self.now.pending =
    rw (← c.self.view_is) (of_pairs (λ pair. Tells g.F.Fn c.args.test.now pair false) xs
    (λ k d p. subst (λ (l : List (Item g.row.T.Denot g.row.P.Denot)). Tells g.F.Fn c.args.test.now (pair_of (get_or l k d)) false) c.as_slice.ensures.value
    (c.in_err-at.ensures.none k d (subst (λ (l : List (Item g.row.T.Denot g.row.P.Denot)). k < length l) (sym c.as_slice.ensures.value) p)))) in
    rw c.from_residual.ensures each

pub invariant_of-self-2 : goal.invariant_of-self-2
invariant_of-self-2 g c =
    let was = c.self.invariant in
    let r = c.remove in
    kept_without g.met.P.Ord.total c.self.inside.heap.items.items r.new.self.items.items r.result was.apart r.ensures.moves _ was.numbered r.new.self.has_two_ends (r.ensures.order was.order)

pub returns-clause-taken : goal.returns-clause-taken
returns-clause-taken g c =
    let was = c.self.invariant in
    let r = c.remove in
    let xs = c.self.inside.heap.items.items in
    let at = c.in_ok-at.at in
    let passes : g.row.T.Denot × g.row.P.Denot → Type 0 = (λ pair. Tells g.F.Fn c.args.test.now pair true) in
    let fails : g.row.T.Denot × g.row.P.Denot → Type 0 = (λ pair. Tells g.F.Fn c.args.test.now pair false) in
    let same : slice_index_or c.as_slice.result.now at r.result ≡ r.result =
    ap (λ (l : List (Item g.row.T.Denot g.row.P.Denot)). slice_index_or l at r.result) c.as_slice.ensures.value ∙ sym r.ensures.item in
    let passed = subst (λ x. passes (pair_of x)) same (c.in_ok-at.ensures.found r.result) in
    let seen = c.as_slice.ensures.value in
    let within : at < length xs = subst (λ (l : List (Item g.row.T.Denot g.row.P.Denot)). at < length l) seen c.in_ok-at.ensures.within in
    let others = subst
    (λ (l : List (Item g.row.T.Denot g.row.P.Denot)). (k : ℕ) (d : Item g.row.T.Denot g.row.P.Denot) → k < length l → is_gt (item_cmp g.P.Ord.cmp (get_or l k d) (get_or l at d)) ≡ true
    → fails (pair_of (get_or l k d))) seen c.in_ok-at.ensures.greatest in
    let tested : All (λ y. is_gt (item_cmp g.P.Ord.cmp y r.result) ≡ true → fails (pair_of y)) xs = (λ k d p above.
    let here = r.ensures.item ∙ get_or_default xs at r.result d within in
    others k d p (subst (λ x. is_gt (item_cmp g.P.Ord.cmp (get_or xs k d) x) ≡ true) here above)) in
    rw (← c.self.view_is, c.into_pair.ensures) (
      takes_one g.met.P.Ord.total xs r.new.self.items.items r.result was.apart r.ensures.moves,
      passes_greatest g.met.P.Ord.total xs r.new.self.items.items r.result was.apart r.ensures.moves passes fails passed (recursion_from_All _ xs tested),
    )
