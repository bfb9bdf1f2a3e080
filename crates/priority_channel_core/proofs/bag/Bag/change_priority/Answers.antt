use Rattle.std.proofs.Common.{rules, ℕ, ◌<◌, List, length, true, false, get_or, arith, sym, ap, subst, ◌∙◌, All}
use Rattle.std.proofs.lemmas.List.{get_or_default}
use Rattle.priority_channel_core.specs.bag.Prelude.{Item, in_order_of_numbers, pair_of, Tells}
use Rattle.priority_channel_core.proofs.items.Changed.{kept_changed, changes_first}
use Rattle.priority_channel_core.proofs.items.Kept.{of_pairs}
use Rattle.priority_channel_core.proofs.bag.Bag.change_priority.Goals as goal

pub returns-in_default-clause-none : goal.returns-in_default-clause-none
returns-in_default-clause-none g c =
    let fails : g.row.T.Denot × g.row.P.Denot → Type 0 = (λ pair. Tells g.F.Fn c.args.test.now pair false) in
    rw (← c.self.view_is) (subst (λ (l : List (Item g.row.T.Denot g.row.P.Denot)). All fails (in_order_of_numbers l)) c.as_slice.ensures.value (of_pairs fails c.as_slice.result.now c.in_default.ensures.none))

pub invariant_of-self : goal.invariant_of-self
invariant_of-self g c =
    let was = c.self.invariant in
    let r = c.replace_priority in
    let (x, others, at, given, out, moves) = r.ensures.moves in
    rw r.ensures.ends (kept_changed c.self.inside.heap.items.items r.new.self.items.items others x c.args.priority was.apart out moves g.P.Ord.cmp c.self.inside.heap.has_two_ends _ was (rw r.ensures.ends at (r.ensures.order was.order)))

pub returns-clause-changed : goal.returns-clause-changed
returns-clause-changed g c =
    let xs = c.self.inside.heap.items.items in
    let found = c.in-Some.at in
    let seen = c.as_slice.ensures.value in
    let r = c.replace_priority in
    let (x, others, at, given, out, moves) = r.ensures.moves in
    let within : found < length xs = subst (λ (l : List (Item g.row.T.Denot g.row.P.Denot)). found < length l) seen c.in-Some.ensures.within in
    let failed = subst
    (λ (l : List (Item g.row.T.Denot g.row.P.Denot)). (k : ℕ) (d : Item g.row.T.Denot g.row.P.Denot) → k < length l → (get_or l k d).number < (get_or l found d).number
    → Tells g.F.Fn c.args.test.now (pair_of (get_or l k d)) false) seen c.in-Some.ensures.first in
    let passed = subst (λ (l : List (Item g.row.T.Denot g.row.P.Denot)). Tells g.F.Fn c.args.test.now (pair_of (get_or l found x)) true) seen (c.in-Some.ensures.found x) in
    rw (← c.self.view_is, given)
    (changes_first xs r.new.self.items.items others x c.args.priority c.self.invariant.apart out moves (λ pair. Tells g.F.Fn c.args.test.now pair true) (λ pair. Tells g.F.Fn c.args.test.now pair false)
    (subst (λ i. Tells g.F.Fn c.args.test.now (pair_of i) true) (sym at) passed)
    (λ k d p lt. let same_item = ap (λ i. i.number) (at ∙ get_or_default xs found x d within) in failed k d p (omega arith)))

pub returns-clause-counted : goal.returns-clause-counted
returns-clause-counted g c = search rules
