-- The items that a bag keeps.
use Rattle.std.proofs.Common.{◌≡◌, ℕ, ◌+◌, ◌<◌, ◌≤◌, Bool, true, false, List, [], ◌∷◌, ◌++◌, length, length-append, length-drop, get_or, map, take, drop, refl, sym, ap, subst, ◌∙◌, arith, IsPermutation, is_lt, is_gt, ◌⊎◌, inl, inr}
use Rattle.std.proofs.lemmas.Bool.{cases_Bool}
use Rattle.std.proofs.lemmas.Bool.Decides.{nat_tests}
use Rattle.std.proofs.lemmas.List.{length-map, map-append, nil_from_length}
use Rattle.std.proofs.lemmas.List.Elements.{All-nil, All-push, All-weaker, All-tail, All-map, All-from_recursion, recursion_from_All}
use Rattle.std.proofs.lemmas.List.Sorted.{All-permutation, IsPermutation-map, IsPermutation-refl, IsPermutation-swap_remove, length_permutation}
use Rattle.std.proofs.Permutation.{every_append, every_shuffled}
use Rattle.std.proofs.Math.Seq.{take-append_seam}
use Rattle.std.proofs.HeapSift as heap
use Rattle.std.specs.Cmp.{IsTotalOrder}
use Rattle.std.specs.List.{All, AllByRecursion, IsDistinct, swap_remove}
use Rattle.std.specs.declared.cmp.Ordering.TheVariants.{Less, Greater}
use Rattle.priority_channel_core.specs.bag.Prelude.{Item, PassesGreatest, TakesGreatest, TakesLeast, NoneBelow, TakesOne, TakesAll, in_order_of_numbers, pair_of, by_key, same_number, item_cmp, IsOrdered, IsKept, Ordering}
use Rattle.priority_channel_core.proofs.items.ByKey as keys
use Rattle.priority_channel_core.proofs.items.ByKey.{every_weaker}
use Rattle.priority_channel_core.proofs.items.ItemOrder.{item_total}
use Rattle.priority_channel_core.proofs.items.Ordered.{greatest_first}

module _ {X : Type 0} where
  pub every_part : (P : X → Type 0) (xs ys : List X) → AllByRecursion P (xs ++ ys) → AllByRecursion P xs × AllByRecursion P ys
  every_part P [] ys h = (tt, h)
  every_part P (x ∷ xs) ys h = let r = every_part P xs ys h.1 in ((h.0, r.0), r.1)

  pub every_both : (P Q : X → Type 0) (xs : List X) → AllByRecursion P xs → AllByRecursion Q xs → AllByRecursion (λ x. P x × Q x) xs
  every_both P Q [] p q = tt
  every_both P Q (x ∷ xs) p q = ((p.0, q.0), every_both P Q xs p.1 q.1)

  apart_push : (e : X → X → Bool) (xs : List X) (x : X) → IsDistinct e xs → AllByRecursion (λ y. e y x ≡ false) xs → IsDistinct e (xs ++ x ∷ [])
  unfolding IsDistinct
  apart_push e [] x h f = (tt, tt)
  apart_push e (y ∷ xs) x h f = (every_append (λ z. e y z ≡ false) xs (x ∷ []) h.0 (f.0, tt), apart_push e xs x h.1 f.1)

module _ {T P : Type 0} where
  abbrev number : Item T P → ℕ
  number x = x.number

  pub length_in_order : (xs : List (Item T P)) → length (in_order_of_numbers xs) ≡ length xs
  length_in_order xs = length-map (by_key number xs) pair_of ∙ keys.length-by_key number xs

  pub in_order_none : (xs : List (Item T P)) → length xs ≡ 0 → in_order_of_numbers xs ≡ []
  unfolding by_key
  in_order_none xs none = ap in_order_of_numbers (nil_from_length xs none)

  pub of_each : (Q : T × P → Type 0) (F : Item T P → Type 0) → ((y : Item T P) → F y → Q (pair_of y)) → (xs : List (Item T P)) → AllByRecursion F xs → All Q (map pair_of xs)
  of_each Q F f xs h = All-map Q pair_of xs (All-from_recursion (λ y. Q (pair_of y)) xs (every_weaker F (λ y. Q (pair_of y)) f xs h))

  pub kept : {cmp : P → P → Ordering} (two : Bool) (ys zs : List (Item T P)) (n : ℕ) → IsPermutation ys zs → IsDistinct same_number ys → All (λ y. y.number < n) ys
      → IsOrdered (item_cmp cmp) two zs → IsKept cmp two zs n
  kept two ys zs n moves apart numbered order = record {
    order = order;
    apart = keys.still_apart number ys zs moves apart;
    numbered = All-permutation (λ y. y.number < n) ys zs moves numbered;
  }

  module _ {cmp : P → P → Ordering} (o : IsTotalOrder cmp) where
    abbrev R : Item T P → Item T P → Ordering
    R = item_cmp cmp

    pub kept_none : (xs : List (Item T P)) (n : ℕ) → xs ≡ [] → IsKept cmp false xs n
    unfolding IsDistinct
    kept_none xs n e = record {
      order = heap.empty (item_total o) xs e;
      apart = subst (IsDistinct same_number) (sym e) tt;
      numbered = subst (All (λ x. x.number < n)) (sym e) (All-nil (λ x. x.number < n));
    }

    module _ (two : Bool) (xs : List (Item T P)) (n : ℕ) (was : IsKept cmp two xs n) where
      pub kept_moved : (other : Bool) (zs : List (Item T P)) → IsPermutation xs zs → IsOrdered R other zs → IsKept cmp other zs n
      kept_moved other zs moves order = kept other xs zs n moves was.apart was.numbered order

      pub pending_moved : (zs : List (Item T P)) → IsPermutation xs zs → in_order_of_numbers zs ≡ in_order_of_numbers xs
      pending_moved zs moves = ap (map pair_of) (keys.by_key_permutation number xs zs moves was.apart)

    -- an item with a new number is added
    module _ (xs zs : List (Item T P)) (x : Item T P) (n : ℕ) (apart_before : IsDistinct same_number xs) (numbered : All (λ y. y.number < n) xs) (new : x.number ≡ n) (moves : IsPermutation (xs ++ x ∷ []) zs) where
      below : AllByRecursion (λ y. y.number < x.number) xs
      below = rw new (recursion_from_All (λ y. y.number < n) xs numbered)

      apart : IsDistinct same_number (xs ++ x ∷ [])
      apart = apart_push same_number xs x apart_before (every_weaker (λ y. y.number < x.number) (λ y. same_number y x ≡ false) (λ y p. grind (arith, nat_tests)) xs below)

      pub kept_with : (two : Bool) → IsOrdered R two zs → IsKept cmp two zs (n + 1)
      kept_with two = kept two (xs ++ x ∷ []) zs (n + 1) moves apart
          (All-push (λ y. y.number < n + 1) xs x (All-weaker (λ y. y.number < n) (λ y. y.number < n + 1) (λ y p. omega arith) xs numbered) (omega arith))

      pub pending_with : in_order_of_numbers zs ≡ in_order_of_numbers xs ++ pair_of x ∷ []
      pending_with =
          ap (map pair_of) (keys.by_key_permutation number (xs ++ x ∷ []) zs moves apart ∙ keys.by_key-push number xs x below)
          ∙ map-append pair_of (by_key number xs) (x ∷ [])

    first_below : (x y : Item T P) → is_lt (R x y) ≡ false → same_number x y ≡ false → y.number ≤ x.number → cmp y.priority x.priority ≡ Less
    first_below x y h apart p = grind (arith, nat_tests, o.antisymm y.priority x.priority)

    never_above : (x y : Item T P) → is_lt (R x y) ≡ false → is_gt (cmp y.priority x.priority) ≡ false
    never_above x y h = grind (arith, o.antisymm y.priority x.priority)

    never_below : (x y : Item T P) → is_lt (R y x) ≡ false → is_lt (cmp y.priority x.priority) ≡ false
    never_below x y h = grind arith

    later_above : (x y : Item T P) → is_lt (R y x) ≡ false → x.number < y.number → cmp y.priority x.priority ≡ Greater
    later_above x y h p = grind (arith, nat_tests)

    before_below : (x y : Item T P) → is_gt (R y x) ≡ false → same_number x y ≡ false → y.number ≤ x.number → cmp y.priority x.priority ≡ Less
    before_below x y h apart p = grind (arith, nat_tests)

    behind_not_above : (x y : Item T P) → is_gt (R y x) ≡ false → is_gt (cmp y.priority x.priority) ≡ false
    behind_not_above x y h = grind arith

    -- one item is taken out, and the others are left
    module _ (xs zs : List (Item T P)) (x : Item T P) (apart : IsDistinct same_number xs) (moved : IsPermutation xs (x ∷ zs)) where
      apart_after : IsDistinct same_number (x ∷ zs)
      apart_after = keys.still_apart number xs (x ∷ zs) moved apart

      pub apart_left : IsDistinct same_number zs
      unfolding IsDistinct
      apart_left = apart_after.1

      abbrev place : keys.PutIn number x (by_key number zs)
      place = keys.splits number x (by_key number zs)

      split : in_order_of_numbers xs ≡ map pair_of place.front ++ pair_of x ∷ map pair_of place.back
      unfolding by_key
      split = ap (map pair_of) (sym (keys.by_key_permutation number xs (x ∷ zs) moved apart) ∙ place.whole x refl) ∙ map-append pair_of place.front (x ∷ place.back)

      closed_up : in_order_of_numbers zs ≡ map pair_of place.front ++ map pair_of place.back
      closed_up = ap (map pair_of) place.rest ∙ map-append pair_of place.front place.back

      pub takes_one : TakesOne (in_order_of_numbers xs) (pair_of x) (in_order_of_numbers zs)
      takes_one = record { before = map pair_of place.front; after = map pair_of place.back; split = split; closed_up = closed_up }

      parts : (Q : Item T P → Type 0) → AllByRecursion Q zs → AllByRecursion Q place.front × AllByRecursion Q place.back
      parts Q h = every_part Q place.front place.back (subst (AllByRecursion Q) place.rest (keys.every_by_key number Q zs h))

      abbrev Left : Item T P → Type 0
      Left y = (is_lt (R x y) ≡ false) × (same_number x y ≡ false)

      pub takes_greatest : AllByRecursion (λ y. is_lt (R x y) ≡ false) xs → TakesGreatest cmp (in_order_of_numbers xs) (pair_of x) (in_order_of_numbers zs)
      unfolding IsDistinct
      takes_greatest bound =
          let upper = (every_shuffled (λ y. is_lt (R x y) ≡ false) xs (x ∷ zs) moved bound).1 in
          let both = parts Left (every_both (λ y. is_lt (R x y) ≡ false) (λ y. same_number x y ≡ false) zs upper apart_after.0) in
          record {
            before = map pair_of place.front;
            after = map pair_of place.back;
            split = split;
            closed_up = closed_up;
            below = of_each (λ other. cmp other.1 x.priority ≡ Less) (λ y. Left y × (y.number ≤ x.number)) (λ y h. first_below x y h.0.0 h.0.1 h.1) place.front
                (every_both Left (λ y. y.number ≤ x.number) place.front both.0 place.upto);
            not_above = of_each (λ other. is_gt (cmp other.1 x.priority) ≡ false) Left (λ y h. never_above x y h.0) place.back both.1;
          }

      -- the same among the pairs that pass a test
      module _ (passes fails : T × P → Type 0) where
        abbrev Tested : Item T P → Type 0
        Tested y = is_gt (R y x) ≡ true → fails (pair_of y)

        tested_before : (y : Item T P) → (Tested y × (same_number x y ≡ false)) × (y.number ≤ x.number) → fails (pair_of y) ⊎ (cmp y.priority x.priority ≡ Less)
        tested_before y h = elim (cases_Bool (is_gt (R y x))) [
          | inl above ↦ inl (h.0.0 above)
          | inr not ↦ inr (before_below x y not h.0.1 h.1)
        ]

        tested_after : (y : Item T P) → Tested y × (same_number x y ≡ false) → fails (pair_of y) ⊎ (is_gt (cmp y.priority x.priority) ≡ false)
        tested_after y h = elim (cases_Bool (is_gt (R y x))) [
          | inl above ↦ inl (h.0 above)
          | inr not ↦ inr (behind_not_above x y not)
        ]

        pub passes_greatest : passes (pair_of x) → AllByRecursion Tested xs → PassesGreatest cmp passes fails takes_one
        unfolding IsDistinct takes_one
        passes_greatest passed tested =
            let rest = (every_shuffled Tested xs (x ∷ zs) moved tested).1 in
            let both = parts (λ y. Tested y × (same_number x y ≡ false)) (every_both Tested (λ y. same_number x y ≡ false) zs rest apart_after.0) in
            record {
              passed = passed;
              below = of_each (λ other. fails other ⊎ (cmp other.1 x.priority ≡ Less)) (λ y. (Tested y × (same_number x y ≡ false)) × (y.number ≤ x.number)) tested_before place.front
                  (every_both (λ y. Tested y × (same_number x y ≡ false)) (λ y. y.number ≤ x.number) place.front both.0 place.upto);
              not_above = of_each (λ other. fails other ⊎ (is_gt (cmp other.1 x.priority) ≡ false)) (λ y. Tested y × (same_number x y ≡ false)) tested_after place.back both.1;
            }

      pub takes_least : AllByRecursion (λ y. is_lt (R y x) ≡ false) xs → TakesLeast cmp (in_order_of_numbers xs) (pair_of x) (in_order_of_numbers zs)
      takes_least bound =
          let both = parts (λ y. is_lt (R y x) ≡ false) (every_shuffled (λ y. is_lt (R y x) ≡ false) xs (x ∷ zs) moved bound).1 in
          record {
            before = map pair_of place.front;
            after = map pair_of place.back;
            split = split;
            closed_up = closed_up;
            not_below = of_each (λ other. is_lt (cmp other.1 x.priority) ≡ false) (λ y. is_lt (R y x) ≡ false) (λ y h. never_below x y h) place.front both.0;
            above = of_each (λ other. cmp other.1 x.priority ≡ Greater) (λ y. (is_lt (R y x) ≡ false) × (x.number < y.number)) (λ y h. later_above x y h.0 h.1) place.back
                (every_both (λ y. is_lt (R y x) ≡ false) (λ y. x.number < y.number) place.back both.1 (place.beyond (keys.rises_by_key number zs)));
          }

      module _ (n : ℕ) (numbered : All (λ y. y.number < n) xs) where
        pub numbered_left : All (λ y. y.number < n) zs
        numbered_left = All-tail (λ y. y.number < n) x zs (All-permutation (λ y. y.number < n) xs (x ∷ zs) moved numbered)

        pub kept_without : (two : Bool) → IsOrdered R two zs → IsKept cmp two zs n
        kept_without two order = record { order = order; apart = apart_left; numbered = numbered_left }

    apart_rest : (xs ys : List (Item T P)) → IsDistinct same_number (xs ++ ys) → IsDistinct same_number ys
    unfolding IsDistinct
    apart_rest [] ys h = h
    apart_rest (x ∷ xs) ys h = apart_rest xs ys h.1

    -- many items are taken out
    pub kept_rest : (two : Bool) (xs others zs : List (Item T P)) (n : ℕ) → IsKept cmp two xs n → IsPermutation xs (others ++ zs) → (ys : List (Item T P)) → IsPermutation zs ys → IsOrdered R two ys → IsKept cmp two ys n
    kept_rest two xs others zs n was moved ys moves = kept two zs ys n moves
        (apart_rest others zs (keys.still_apart number xs (others ++ zs) moved was.apart))
        (All-from_recursion (λ y. y.number < n) zs (every_part (λ y. y.number < n) others zs (every_shuffled (λ y. y.number < n) xs (others ++ zs) moved (recursion_from_All (λ y. y.number < n) xs was.numbered))).1)

    pub takes_all : (xs others zs : List (Item T P)) → IsDistinct same_number xs → IsPermutation xs (others ++ zs) → TakesAll (in_order_of_numbers xs) (map pair_of others) (in_order_of_numbers zs)
    takes_all xs [] zs apart moved = ap (map pair_of) (keys.by_key_permutation number xs zs moved apart)
    takes_all xs (x ∷ others) zs apart moved = (
      in_order_of_numbers (others ++ zs),
      takes_one xs (others ++ zs) x apart moved,
      takes_all (others ++ zs) others zs (apart_left xs (others ++ zs) x apart moved) (IsPermutation-refl (others ++ zs)),
    )

    pub shows_greatest : (two : Bool) (xs : List (Item T P)) (x : Item T P) (n : ℕ) → IsKept cmp two xs n → 0 < length xs → x ≡ get_or xs 0 x
        → (rest : List (T × P)) × TakesGreatest cmp (in_order_of_numbers xs) (pair_of x) rest
    shows_greatest two xs x n was some first = (
      in_order_of_numbers (swap_remove xs 0 x),
      takes_greatest xs (swap_remove xs 0 x) x was.apart (IsPermutation-swap_remove xs 0 x some first) (greatest_first R (item_total o) two xs x first was.order),
    )

    pub none_below : (xs : List (Item T P)) (x : Item T P) (priority : P) → AllByRecursion (λ y. is_lt (R y x) ≡ false) xs → is_lt (cmp x.priority priority) ≡ false → NoneBelow cmp (in_order_of_numbers xs) priority
    none_below xs x priority least h =
        of_each (λ other. is_lt (cmp other.1 priority) ≡ false) (λ y. is_lt (R y x) ≡ false) (λ y e. (heap.ranks o).chain _ _ _ (never_below x y e) h) (by_key number xs)
        (keys.every_by_key number (λ y. is_lt (R y x) ≡ false) xs least)

-- what holds of each item holds of each pair
pub of_pairs : {T P : Type 0} (Q : T × P → Type 0) (xs : List (Item T P)) → All (λ y. Q (pair_of y)) xs → All Q (in_order_of_numbers xs)
of_pairs Q xs h = of_each Q (λ y. Q (pair_of y)) (λ y q. q) (by_key number xs) (keys.every_by_key number (λ y. Q (pair_of y)) xs (recursion_from_All (λ y. Q (pair_of y)) xs h))

-- the pairs of the items as they stand are those that are pending, in another order
pub folded_in_order : {T P : Type 0} (xs : List (Item T P)) → IsPermutation (in_order_of_numbers xs) (map pair_of xs)
folded_in_order xs = IsPermutation-map pair_of (by_key (λ y. y.number) xs) xs (keys.by_key_moves (λ y. y.number) xs)

pub less_from_test : (a : Ordering) → is_lt a ≡ true → a ≡ Less
less_from_test a e = grind arith

-- the contents of a vector after a slice of the whole of it was written
written_back : {X : Type 0} (xs old : List X) (n : ℕ) → n ≡ length xs → take n (xs ++ drop (length xs) old) ≡ xs
written_back xs old n e = rw e (take-append_seam xs (drop (length xs) old))

pub arranged_back : {X : Type 0} (ys zs old : List X) (n : ℕ) → IsPermutation ys zs → length ys ≡ n → take n (zs ++ drop (length zs) old) ≡ zs
arranged_back ys zs old n moves long = written_back zs old n (sym (length_permutation ys zs moves ∙ long))

-- the same after its first k were written
pub part_written : {X : Type 0} (ys old : List X) (n k : ℕ) → n ≡ length old → length ys ≡ k → k ≤ n
    → take n ((ys ++ drop (length ys) old) ++ drop (length (ys ++ drop (length ys) old)) old) ≡ ys ++ drop k old
part_written ys old n k whole long le =
    written_back (ys ++ drop (length ys) old) old n (omega (arith, length-append ys (drop (length ys) old), length-drop (length ys) old))
    ∙ ap (λ m. ys ++ drop m old) long
