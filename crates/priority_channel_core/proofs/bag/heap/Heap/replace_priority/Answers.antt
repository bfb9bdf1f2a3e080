use Rattle.std.proofs.Common.{◌++◌, ◌∷◌, [], refl, subst, remove, IsPermutation}
use Rattle.priority_channel_core.specs.bag.Prelude.{item_cmp}
use Rattle.std.proofs.lemmas.List.Sorted.{IsPermutation-remove}
use Rattle.priority_channel_core.proofs.items.ItemOrder.{item_total}
use Rattle.priority_channel_core.proofs.items.Ordered.{comes_in, replaced}
use Rattle.priority_channel_core.proofs.bag.heap.Heap.replace_priority.Goals as goal

pub returns-clause-moves : goal.returns-clause-moves
returns-clause-moves g c =
    let xs = c.args.self.now.items.items in
    let at = c.args.at in
    let was = c.replace-was in
    let x = c.index_mut-item.result.now in
    let first = c.index_mut-item.ensures.value in (
      x,
      remove xs at,
      first,
      was.ensures.value,
      IsPermutation-remove xs at x c.requires first,
      subst (λ p. IsPermutation (remove xs at ++ record x { priority = p } ∷ []) c.mend.new.self.items.items) was.ensures.after
          (comes_in xs c.mend.new.self.items.items at (record x { priority = was.new.dest }) c.requires c.mend.ensures.moves),
    )

pub returns-clause-order : goal.returns-clause-order
returns-clause-order g c = λ w.
    let item = c.index_mut-item in
    rw c.mend.ensures.ends
    (replaced (item_cmp g.P.Ord.cmp) (item_total g.met.P.Ord.total) c.args.self.now.has_two_ends c.args.self.now.items.items _ c.mend.new.self.items.items c.args.at item.result.now _ c.requires item.ensures.value refl c.mend.ensures.order w)
