-- Numbered items: their order, and the pairs that they stand for.
use Rattle.std.specs.Prelude.{ℕ, Bool, Option, Some, None, List, [], ◌∷◌, map, ◌==◌}
use Rattle.std.specs.Ordering.{nat_cmp, on, flip_args, then_cmp}
use Rattle.std.specs.declared.cmp.Ordering.{Ordering}
use Rattle.priority_channel_core.specs.declared.item.Item.{Item}
use Rattle.priority_channel_core.specs.bag.ByKey.{by_key}

module _ {T P : Type 0} where
  abbrev pub pair_of : Item T P → T × P
  pair_of x = (x.msg, x.priority)

  abbrev pub in_order_of_numbers : List (Item T P) → List (T × P)
  in_order_of_numbers xs = map pair_of (by_key (λ x. x.number) xs)

  -- of the item on top of a heap
  abbrev pub first_number : List (Item T P) → Option ℕ
  first_number [] = None
  first_number (x ∷ xs) = Some x.number

  abbrev pub same_number : Item T P → Item T P → Bool
  same_number x y = x.number == y.number

  -- of two items with equal priorities the one with the smaller number is the greater
  abbrev pub item_cmp : (P → P → Ordering) → Item T P → Item T P → Ordering
  item_cmp cmp = then_cmp (on (λ x. x.priority) cmp) (flip_args (on (λ x. x.number) nat_cmp))
