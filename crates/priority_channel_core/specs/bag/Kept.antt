-- What always holds of the items of a bag.
use Rattle.std.specs.Prelude.{ℕ, ◌<◌, Bool, List}
use Rattle.std.specs.List.{All, IsDistinct}
use Rattle.std.specs.declared.cmp.Ordering.{Ordering}
use Rattle.priority_channel_core.specs.declared.item.Item.{Item}
use Rattle.priority_channel_core.specs.bag.Heap.{IsOrdered}
use Rattle.priority_channel_core.specs.bag.Items.{item_cmp, same_number}

pub record IsKept {T P : Type 0} (cmp : P → P → Ordering) (has_two_ends : Bool)
    (items : List (Item T P)) (accepted : ℕ) : Type 0 where
  pub order : IsOrdered (item_cmp cmp) has_two_ends items
  pub apart : IsDistinct same_number items
  pub numbered : All (λ x. x.number < accepted) items
