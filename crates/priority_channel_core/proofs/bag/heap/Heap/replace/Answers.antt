use Rattle.std.proofs.Common.{◌≡◌, ◌++◌, ◌∷◌, [], get_or, refl, subst, ◌∙◌, remove, IsPermutation}
use Rattle.priority_channel_core.specs.bag.Prelude.{item_cmp}
use Rattle.std.proofs.lemmas.List.{get_or_default}
use Rattle.std.proofs.lemmas.List.Sorted.{IsPermutation-remove}
use Rattle.priority_channel_core.proofs.items.ItemOrder.{item_total}
use Rattle.priority_channel_core.proofs.items.Ordered.{comes_in, replaced}
use Rattle.priority_channel_core.proofs.bag.heap.Heap.replace.Goals as goal

pub returns-clause-moves : goal.returns-clause-moves
returns-clause-moves g c =
    let xs = c.args.self.now.items.items in
    let at = c.args.at in
    let out = c.replace-out in
    let first : out.result ≡ get_or xs at out.result = out.ensures.value ∙ c.index_mut.ensures.value ∙ get_or_default xs at _ out.result c.requires in (
      remove xs at,
      IsPermutation-remove xs at out.result c.requires first,
      subst (λ x. IsPermutation (remove xs at ++ x ∷ []) c.mend.new.self.items.items) out.ensures.after (comes_in xs c.mend.new.self.items.items at out.new.dest c.requires c.mend.ensures.moves),
    )

pub returns-clause-order : goal.returns-clause-order
returns-clause-order g c = λ w.
    let xs = c.args.self.now.items.items in
    let at = c.args.at in
    let out = c.replace-out in
    let first : out.result ≡ get_or xs at out.result = out.ensures.value ∙ c.index_mut.ensures.value ∙ get_or_default xs at _ out.result c.requires in
    rw c.mend.ensures.ends
    (replaced (item_cmp g.P.Ord.cmp) (item_total g.met.P.Ord.total) c.args.self.now.has_two_ends xs _ c.mend.new.self.items.items at out.result out.new.dest c.requires first refl c.mend.ensures.order w)
