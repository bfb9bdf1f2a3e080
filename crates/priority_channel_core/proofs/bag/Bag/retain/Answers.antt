use Rattle.std.proofs.Common.{◌≡◌, ◌*◌, ◌++◌, length, map, true, false, arith, ap}
use Rattle.std.proofs.lemmas.List.Elements.{All-map}
use Rattle.std.proofs.lemmas.List.Sorted.{All-permutation, IsPermutation-trans, IsPermutation-append_right, length_permutation}
use Rattle.priority_channel_core.specs.bag.Prelude.{Item, Contents, digits, in_order_of_numbers, pair_of, Tells}
use Rattle.priority_channel_core.proofs.items.Kept.{length_in_order, kept_rest, takes_all, of_pairs}
use Rattle.priority_channel_core.proofs.bag.Bag.retain.Goals as goal

pub invariant_of-self : goal.invariant_of-self
invariant_of-self g c =
    let left = c.divide.new.items in
    let zs = c.arrange.new.self.items.items in
    let moves = c.arrange.ensures.moves in
    let was = c.self.inside.heap in
    let ends = c.arrange.ensures.ends in
    rw ends (kept_rest g.met.P.Ord.total was.has_two_ends was.items.items c.divide.ensures.taken.0 left.items _ c.self.invariant c.divide.ensures.taken.2 zs moves (rw ends at c.arrange.ensures.order))

pub returns-clause-taken : goal.returns-clause-taken
returns-clause-taken g c =
    let left = c.divide.new.items in
    let zs = c.arrange.new.self.items.items in
    let taken = c.divide.ensures.taken in
    let others = taken.0 in
    let xs = c.self.inside.heap.items.items in
    let moves = c.arrange.ensures.moves in
    let moved = IsPermutation-trans xs (others ++ left.items) (others ++ zs) taken.2 (IsPermutation-append_right others left.items zs moves) in
    rw (← c.self.view_is) (
      map pair_of others,
      taken.1,
      takes_all g.met.P.Ord.total xs others zs c.self.invariant.apart moved,
      All-map (λ pair. Tells g.F.Fn c.args.test.now pair false) pair_of others taken.3,
    )

pub returns-clause-kept : goal.returns-clause-kept
returns-clause-kept g c =
    let left = c.divide.new.items in
    let zs = c.arrange.new.self.items.items in
    let moves = c.arrange.ensures.moves in
    of_pairs (λ pair. Tells g.F.Fn c.args.test.now pair true) zs
    (All-permutation (λ (x : Item g.row.T.Denot g.row.P.Denot). Tells g.F.Fn c.args.test.now (pair_of x) true) left.items zs moves c.divide.ensures.kept)

pub returns-clause-cost : goal.returns-clause-cost
returns-clause-cost g c =
    let left = c.divide.new.items in
    let zs = c.arrange.new.self.items.items in
    let comparisons = ap (λ (b : Contents g.row.T.Denot g.row.P.Denot). b.comparisons) c.self.view_is in
    let n : length left.items ≡ length (in_order_of_numbers zs) = omega (arith, length_in_order zs, length_permutation _ zs c.arrange.ensures.moves) in
    omega (arith, comparisons, c.arrange.ensures.cost, ap (λ m. m * digits m) n)
