-- One item gets another priority, and keeps its number.
use Rattle.std.proofs.Common.{◌≡◌, ℕ, ◌<◌, ◌≤◌, Bool, false, List, [], ◌∷◌, ◌++◌, map, refl, sym, ap, ◌∙◌, arith, IsPermutation}
use Rattle.std.proofs.lemmas.Bool.{eqb-false}
use Rattle.std.proofs.lemmas.List.{map-append}
use Rattle.std.proofs.lemmas.List.Elements.{All-from_recursion, recursion_from_All}
use Rattle.std.proofs.lemmas.List.Sorted.{IsPermutation-trans, IsPermutation-sym, IsPermutation-to_front}
use Rattle.std.proofs.Permutation.{every_shuffled}
use Rattle.std.specs.List.{All, AllByRecursion, IsDistinct}
use Rattle.priority_channel_core.specs.bag.Prelude.{Item, Changes, PassesFirst, in_order_of_numbers, pair_of, by_key, same_number, item_cmp, IsOrdered, IsKept, Ordering}
use Rattle.priority_channel_core.proofs.items.ByKey as keys
use Rattle.priority_channel_core.proofs.items.Kept.{every_part, every_both, of_each, kept}

module _ {T P : Type 0} (xs zs others : List (Item T P)) (x : Item T P) (priority : P) (apart : IsDistinct same_number xs)
    (moved : IsPermutation xs (x ∷ others)) (moves : IsPermutation (others ++ record x { priority = priority } ∷ []) zs) where
  abbrev number : Item T P → ℕ
  number i = i.number

  abbrev changed : Item T P
  changed = record x { priority = priority }

  apart_before : IsDistinct same_number (x ∷ others)
  apart_before = keys.still_apart number xs (x ∷ others) moved apart

  apart_after : IsDistinct same_number (changed ∷ others)
  unfolding IsDistinct
  apart_after = apart_before

  in_front : IsPermutation (changed ∷ others) zs
  in_front = IsPermutation-trans _ _ _ (IsPermutation-sym _ _ (IsPermutation-to_front others changed)) moves

  pub kept_changed : (cmp : P → P → Ordering) (two : Bool) (n : ℕ) → IsKept cmp two xs n → IsOrdered (item_cmp cmp) two zs → IsKept cmp two zs n
  kept_changed cmp two n was order =
      let below = every_shuffled (λ y. y.number < n) xs (x ∷ others) moved (recursion_from_All (λ y. y.number < n) xs was.numbered) in
      kept two (changed ∷ others) zs n in_front apart_after (All-from_recursion (λ y. y.number < n) (changed ∷ others) (below.0, below.1)) order

  abbrev place : keys.PutIn number x (by_key number others)
  place = keys.splits number x (by_key number others)

  abbrev Left : (T × P → Type 0) → Item T P → Type 0
  Left fails y = (y.number < x.number → fails (pair_of y)) × (same_number x y ≡ false)

  -- the items with lesser numbers are those before it
  pub changes_first : (passes fails : T × P → Type 0) → passes (pair_of x)
      → All (λ y. y.number < x.number → fails (pair_of y)) xs
      → (change : Changes (in_order_of_numbers xs) x.priority priority (in_order_of_numbers zs)) × PassesFirst passes fails change
  unfolding by_key IsDistinct
  changes_first passes fails passed failed = (
    record {
      msg = x.msg;
      before = map pair_of place.front;
      after = map pair_of place.back;
      split = ap (map pair_of) (sym (keys.by_key_permutation number xs (x ∷ others) moved apart) ∙ place.whole x refl) ∙ map-append pair_of place.front (x ∷ place.back);
      changed = ap (map pair_of) (keys.by_key_permutation number (changed ∷ others) zs in_front apart_after ∙ place.whole changed refl) ∙ map-append pair_of place.front (changed ∷ place.back);
    },
    record {
      passed = passed;
      failed = of_each fails (λ y. Left fails y × (y.number ≤ x.number)) (λ y h. let ne : x.number ≡ y.number → ⊥ = eqb-false x.number y.number h.0.1 in h.0.0 (omega arith)) place.front
          (every_both (Left fails) (λ y. y.number ≤ x.number) place.front (every_part (Left fails) place.front place.back rest).0 place.upto);
    },
  )
    where
      all : AllByRecursion (λ y. y.number < x.number → fails (pair_of y)) (x ∷ others)
      all = every_shuffled (λ y. y.number < x.number → fails (pair_of y)) xs (x ∷ others) moved (recursion_from_All (λ y. y.number < x.number → fails (pair_of y)) xs failed)

      rest : AllByRecursion (Left fails) (place.front ++ place.back)
      rest = rw (← place.rest) (keys.every_by_key number (Left fails) others (every_both (λ y. y.number < x.number → fails (pair_of y)) (λ y. same_number x y ≡ false) others all.1 apart_before.0))
