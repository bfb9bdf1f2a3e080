-- What both kinds of heap preserve.
use Rattle.std.proofs.Common.{◌≡◌, ℕ, suc, ◌+◌, ◌-◌, ◌<◌, ◌≤◌, ◌≢◌, Bool, true, false, List, [], ◌∷◌, ◌++◌, length, length-append, get_or, set, take, drop, refl, sym, ap, subst, ◌∙◌, arith, IsPermutation}
use Rattle.std.proofs.HeapSift as heap
use Rattle.std.proofs.Permutation.{which, every_of}
use Rattle.std.proofs.lemmas.List.{length-set, length-take, length-take-le, take-append-drop, get_or_append_left, set_split, get_or_default, get_or-take, get_or-set_same, get_or-set_other}
use Rattle.std.proofs.lemmas.List.Sorted.{length_permutation, IsPermutation-append_left, IsPermutation-trans, IsPermutation-sym, IsPermutation-middle, IsPermutation-to_front}
use Rattle.std.specs.BinaryHeap.{IsHeap, lt_by_cmp}
use Rattle.std.specs.BinaryHeap.Sift.{SiftsUp}
use Rattle.std.specs.Cmp.{IsTotalOrder}
use Rattle.std.specs.List.{AllByRecursion, remove, swap_remove}
use Rattle.priority_channel_core.specs.bag.Prelude.{IsOrdered, MendsAt, IsIntervalHeap, IsIntervalHeapWithin, IsLeastAt, Ordering}
use Rattle.priority_channel_core.proofs.items.BinaryHeaps as binary
use Rattle.priority_channel_core.proofs.items.IntervalHeaps as interval

abbrev Begins : {X : Type 0} → List X → List X → Type 0
Begins {X} ys xs = (length ys ≤ length xs) × ((i : ℕ) (d : X) → i < length ys → get_or ys i d ≡ get_or xs i d)

module _ {X : Type 0} (R : X → X → Ordering) (o : IsTotalOrder R) where
  agrees : (two : Bool) (xs ys : List X) → Begins ys xs → IsOrdered R two xs → IsOrdered R two ys
  agrees false xs ys b w = binary.agrees R o xs ys b.0 b.1 w
  agrees true xs ys b w = interval.agrees R o xs ys (length xs) (length ys) b.0 b.1 w

  -- ys is xs, but for the item at h
  mended : (two : Bool) (xs ys zs : List X) (h : ℕ) (x : X) → h < length xs → x ≡ get_or xs h x → length ys ≤ length xs
      → ((i : ℕ) (d : X) → i < length ys → i ≢ h → get_or ys i d ≡ get_or xs i d) → MendsAt R two h ys zs → IsOrdered R two xs → IsOrdered R two zs
  mended two xs ys zs h x hn first long same mends w =
      let again = length-set ys h x in
      mends x (agrees two xs (set ys h x) (omega arith, λ i d p. grind (arith, which i h, get_or-set_same ys h x d, get_or-set_other ys h i x d, get_or_default xs h x d, same i d)) w)

  pub removed : (two : Bool) (xs ys zs : List X) (h : ℕ) (x : X) → h < length xs → x ≡ get_or xs h x → ys ≡ swap_remove xs h x → MendsAt R two h ys zs → IsOrdered R two xs → IsOrdered R two zs
  removed two xs ys zs h x hn first is =
      let n = length xs - 1 in
      let moved = set xs h (get_or xs n x) in
      let wide = length-set xs h (get_or xs n x) in
      let long : length ys ≡ n = ap length is ∙ length-take-le n moved (omega arith) in
      mended two xs ys zs h x hn first (omega arith) (λ i d p u. grind (arith, is, get_or-take n moved i d, get_or-set_other xs h i (get_or xs n x) d))

  pub replaced : (two : Bool) (xs ys zs : List X) (h : ℕ) (x y : X) → h < length xs → x ≡ get_or xs h x → ys ≡ set xs h y → MendsAt R two h ys zs → IsOrdered R two xs → IsOrdered R two zs
  replaced two xs ys zs h x y hn first is =
      let long = ap length is ∙ length-set xs h y in
      mended two xs ys zs h x hn first (omega arith) (λ i d p u. grind (arith, is, get_or-set_other xs h i y d))

  pub risen : (xs zs : List X) (h : ℕ) → h + 1 ≡ length xs → length zs ≡ length xs → SiftsUp R xs h zs → IsHeap R (take (length xs - 1) xs) → IsHeap R zs
  risen xs zs h last long rises w =
      let e : length xs - 1 ≡ h = omega arith in
      let front = length-take-le h xs (omega arith) in
      heap.pushed R o (take h xs) (drop h xs) xs zs h (sym front) (sym (take-append-drop h xs)) (omega arith) rises (subst (λ n. IsHeap R (take n xs)) e w)

  pub settled : (xs zs : List X) → 0 < length xs → (IsIntervalHeapWithin R xs (length xs - 1) → IsIntervalHeap R zs) → IsIntervalHeap R (take (length xs - 1) xs) → IsIntervalHeap R zs
  settled xs zs some settles w =
      let n = length xs - 1 in
      let front = length-take-le n xs (omega arith) in
      settles (interval.agrees R o (take n xs) xs (length (take n xs)) n (omega arith) (λ i d p. sym (get_or-take n xs i d p)) w)

  pub greatest_first : (two : Bool) (xs : List X) (x : X) → x ≡ get_or xs 0 x → IsOrdered R two xs → AllByRecursion (λ y. lt_by_cmp R x y ≡ false) xs
  greatest_first false xs x first w = heap.greatest o xs x first w
  greatest_first true xs x first w = every_of (λ y. lt_by_cmp R x y ≡ false) xs x
      (λ k p. ap (λ y. lt_by_cmp R y (get_or xs k x)) first ∙ interval.greatest_first R o xs (length xs) w k k (omega arith) p x)

  pub none_yet : (two : Bool) (xs : List X) → IsOrdered R two (take 0 xs)
  none_yet false xs = heap.empty o [] refl
  none_yet true xs = interval.is_single R [] (omega arith)

  pub all_settled : (two : Bool) (xs : List X) (n : ℕ) → length xs ≤ n → IsOrdered R two (take n xs) → IsOrdered R two xs
  all_settled two xs n le w =
      let long = length-take n xs in
      agrees two (take n xs) xs (omega arith, λ i d p. sym (get_or-take n xs i d (omega arith))) w

  pub one_more : (two : Bool) (xs ys : List X) (n : ℕ) → n < length xs → IsPermutation (take (n + 1) xs) ys
      → (IsOrdered R two (take (length (take (n + 1) xs) - 1) (take (n + 1) xs)) → IsOrdered R two ys)
      → IsOrdered R two (take n xs) → IsOrdered R two (take (n + 1) (ys ++ drop (n + 1) xs))
  one_more two xs ys n p moves settles w =
      let front = take (n + 1) xs in
      let whole = ys ++ drop (n + 1) xs in
      let long = length_permutation front ys moves in
      let wide = length-take-le (n + 1) xs (omega arith) in
      let fewer = length-take-le n xs (omega arith) in
      agrees two ys (take (n + 1) whole)
      (omega (arith, length-append ys (drop (n + 1) xs), length-take (n + 1) whole), λ i d q. grind (arith, length-take (n + 1) whole, get_or-take (n + 1) whole i d, get_or_append_left ys (drop (n + 1) xs) d i))
      (settles (agrees two (take n xs) (take (length front - 1) front)
      (omega (arith, length-take (length front - 1) front), λ i d q. grind (arith, length-take (length front - 1) front, get_or-take (length front - 1) front i d, get_or-take (n + 1) xs i d, get_or-take n xs i d)) w))

-- `slice` is xs, as the call that found the least saw it
pub none_less : {X : Type 0} (R : X → X → Ordering) (two : Bool) (xs slice : List X) (h : ℕ) (x : X) → two ≡ true → IsOrdered R two xs → slice ≡ xs → (IsIntervalHeap R slice → IsLeastAt R slice h)
    → x ≡ get_or xs h x → AllByRecursion (λ y. lt_by_cmp R y x ≡ false) xs
none_less R two xs slice h x ends w same least is =
    let at = rw same at (least (rw same (rw ends at w))) in
    every_of (λ y. lt_by_cmp R y x ≡ false) xs x (λ k p. ap (λ y. lt_by_cmp R (get_or xs k x) y) is ∙ at k p x)

-- An item comes in the place of another.
pub comes_in : {X : Type 0} (xs zs : List X) (h : ℕ) (y : X) → h < length xs → IsPermutation (set xs h y) zs → IsPermutation (remove xs h ++ y ∷ []) zs
comes_in xs zs h y hn moves =
    let a : IsPermutation (set xs h y) (y ∷ remove xs h) = rw (set_split xs h y hn) (IsPermutation-middle (take h xs) y (drop (suc h) xs)) in
    IsPermutation-trans _ _ _ (IsPermutation-to_front (remove xs h) y) (IsPermutation-trans _ _ _ (IsPermutation-sym _ _ a) moves)

pub one_more_moves : {X : Type 0} (start xs ys : List X) (k : ℕ) → IsPermutation start xs → IsPermutation (take k xs) ys → IsPermutation start (ys ++ drop k xs)
one_more_moves start xs ys k before moves =
    IsPermutation-trans start xs (ys ++ drop k xs) before
    (subst (λ l. IsPermutation l (ys ++ drop k xs)) (take-append-drop k xs) (IsPermutation-append_left (drop k xs) (take k xs) ys moves))
