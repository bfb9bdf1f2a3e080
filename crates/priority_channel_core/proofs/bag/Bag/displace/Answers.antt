use Rattle.std.proofs.Common.{◌≡◌, ◌<◌, [], length, true, false, refl, sym, ap, subst, ◌∙◌, is_lt}
use Rattle.std.proofs.lemmas.List.{get_or_default}
use Rattle.std.proofs.lemmas.List.Elements.{All-nil}
use Rattle.priority_channel_core.specs.bag.Prelude.{Contents, in_order_of_numbers, NoneBelow, Displaces}
use Rattle.priority_channel_core.proofs.items.Kept.{in_order_none, kept_with, pending_with, apart_left, numbered_left, takes_least, none_below, less_from_test}
use Rattle.priority_channel_core.proofs.items.Ordered.{none_less}
use Rattle.priority_channel_core.proofs.bag.Bag.displace.Goals as goal

pub returns-in_default-clause-refused : goal.returns-in_default-clause-refused
returns-in_default-clause-refused g c =
    let pending = ap (λ (b : Contents g.row.T.Denot g.row.P.Denot). b.pending) (c.self.view_is ∙ c.find_least.ensures.same) in
    let none : c.self.inside.heap.items.items ≡ [] = sym c.as_slice.ensures.value ∙ c.in_default.ensures.place in
    (refl, subst (λ l. NoneBelow g.P.Ord.cmp l c.args.priority) (sym (in_order_none _ (ap length none)) ∙ pending) (All-nil _))

pub returns-then-not-is_lt-clause-refused : goal.returns-then-not-is_lt-clause-refused
returns-then-not-is_lt-clause-refused g c =
    let xs = c.self.inside.heap.items.items in
    let pending = ap (λ (b : Contents g.row.T.Denot g.row.P.Denot). b.pending) (c.self.view_is ∙ c.find_least.ensures.same) in
    let two = ap (λ (b : Contents g.row.T.Denot g.row.P.Denot). b.knows_least) (c.self.view_is ∙ c.find_least.ensures.same) in
    let x = c.index-least.result.now in
    let test : is_lt (g.P.Ord.cmp x.priority c.args.priority) ≡ false = ap is_lt (sym c.compare-order.ensures.order) ∙ sym c.is_lt.ensures ∙ c.if-not-is_lt.true in
    let least = none_less _ c.self.inside.heap.has_two_ends xs _ c.in-Some.at x two c.self.invariant.order c.as_slice.ensures.value c.in-Some.ensures.least c.index-least.ensures in
    (refl, subst (λ l. NoneBelow g.P.Ord.cmp l c.args.priority) pending (none_below g.met.P.Ord.total xs x c.args.priority least test))

pub invariant_of-self-2 : goal.invariant_of-self-2
invariant_of-self-2 g c =
    let xs = c.self.inside.heap.items.items in
    let was = c.self.invariant in
    let r = c.replace in
    let (others, out, added) = r.ensures.moves in
    kept_with g.met.P.Ord.total others r.new.self.items.items _ _ (apart_left g.met.P.Ord.total xs others r.result was.apart out) (numbered_left g.met.P.Ord.total xs others r.result was.apart out _ was.numbered) refl added
    r.new.self.has_two_ends (r.ensures.order was.order)

pub returns-clause-displaced : goal.returns-clause-displaced
returns-clause-displaced g c =
    let cmp = g.P.Ord.cmp in
    let xs = c.self.inside.heap.items.items in
    let at = c.in-Some.at in
    let was = c.self.invariant in
    let pending = ap (λ (b : Contents g.row.T.Denot g.row.P.Denot). b.pending) (c.self.view_is ∙ c.find_least.ensures.same) in
    let two = ap (λ (b : Contents g.row.T.Denot g.row.P.Denot). b.knows_least) (c.self.view_is ∙ c.find_least.ensures.same) in
    let r = c.replace in
    let x = r.result in
    let zs = r.new.self.items.items in
    let (others, out, added) = r.ensures.moves in
    let first = r.ensures.item in
    let within : at < length xs = subst (λ l. at < length l) c.as_slice.ensures.value c.in-Some.ensures.place in
    let seen = c.index-least.ensures ∙ get_or_default xs at _ x within ∙ sym first in
    let test : is_lt (cmp x.priority c.args.priority) ≡ true = ap (λ i. is_lt (cmp i.priority c.args.priority)) (sym seen) ∙ ap is_lt (sym c.compare-order.ensures.order) ∙ sym c.is_lt.ensures ∙ c.if-not-is_lt.false in
    rw c.into_pair.ensures (subst (λ l. Displaces cmp l (c.args.msg, c.args.priority) (x.msg, x.priority) (in_order_of_numbers zs)) pending (record {
      rest = in_order_of_numbers others;
      less = less_from_test _ test;
      least = takes_least g.met.P.Ord.total xs others x was.apart out (none_less _ c.self.inside.heap.has_two_ends xs _ at x two was.order c.as_slice.ensures.value c.in-Some.ensures.least first);
      added = pending_with g.met.P.Ord.total others zs _ _ (apart_left g.met.P.Ord.total xs others x was.apart out) (numbered_left g.met.P.Ord.total xs others x was.apart out _ was.numbered) refl added;
    }))
