-- The order of items.
use Rattle.std.proofs.Common.{◌≡◌, ℕ, ◌<◌, Bool, List, length, get_or, sym, ap, ◌∙◌, true, arith, is_lt, is_gt}
use Rattle.std.proofs.lemmas.Cmp.{on_total, then_total, back_total, nat_cmp_total}
use Rattle.std.proofs.lemmas.List.Elements.{pair_read}
use Rattle.std.specs.BinaryHeap.Sift.{ComparesAt}
use Rattle.std.specs.Cmp.{IsTotalOrder}
use Rattle.priority_channel_core.specs.bag.Prelude.{Item, item_cmp, Ordering}

pub item_total : {T P : Type 0} {cmp : P → P → Ordering} → IsTotalOrder cmp → IsTotalOrder (item_cmp {T = T} cmp)
item_total {T} {P} o = then_total (on_total (λ (x : Item T P). x.priority) o) (back_total (on_total (λ (x : Item T P). x.number) nat_cmp_total))

module _ {X : Type 0} {R : X → X → Ordering} (o : IsTotalOrder R) where
  pub never_above_itself : (x : X) → is_gt (R x x) ≡ true → ⊥
  never_above_itself x h = grind (arith, o.antisymm x x)

  pub above_chain : (x y z : X) → is_gt (R x y) ≡ true → is_gt (R y z) ≡ true → is_gt (R x z) ≡ true
  above_chain x y z h i = grind (arith, o.antisymm x y, o.antisymm y z, o.antisymm x z, o.trans z y x)

-- what a call of `compare` on the elements at i and j returned
pub compared :
    {X : Type 0} (R : X → X → Ordering) (xs : List X) (i j : ℕ) (x y : X) (o : Ordering) (r : Bool)
    → i < length xs → j < length xs → x ≡ get_or xs i x → y ≡ get_or xs j y → o ≡ R x y → r ≡ is_lt o → ComparesAt R xs i j r
compared R xs i j x y o r p q x_is y_is o_is r_is =
    pair_read xs (λ a b. is_lt (R a b) ≡ r) i j x y p q x_is y_is (ap is_lt (sym o_is) ∙ sym r_is)
