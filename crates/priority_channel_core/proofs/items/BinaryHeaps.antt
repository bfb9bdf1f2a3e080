-- What the moves preserve of a binary heap.
use Rattle.std.proofs.Common.{◌≡◌, ℕ, ◌+◌, ◌*◌, ◌/◌, ◌<◌, ◌≤◌, List, length, get_or, set, sym, subst, arith, length-set, get_or-set_other, swap}
use Rattle.std.proofs.HeapSift as heap
use Rattle.std.proofs.Permutation.{which, swap_places}
use Rattle.std.specs.BinaryHeap.{IsHeap, lt_by_cmp}
use Rattle.std.specs.BinaryHeap.Sift.{SiftsUp, IsHeapWithHole, IsGreaterChild}
use Rattle.std.specs.Slice.Heapsort.{IsHeapWithin}
use Rattle.std.specs.Cmp.{IsTotalOrder}
use Rattle.std.specs.declared.cmp.Ordering.{Ordering}

module _ {X : Type 0} (R : X → X → Ordering) (o : IsTotalOrder R) where
  -- What `sink` preserves: a heap with a hole.
  pub opens : (xs : List X) (h : ℕ) (x : X) → IsHeap R (set xs h x) → IsHeapWithHole (lt_by_cmp R) xs h (length xs)
  unfolding IsHeap
  opens xs h x w = let long = length-set xs h x in (
    λ p k d a b f u v. grind (arith, get_or-set_other xs h p x d, get_or-set_other xs h k x d, w p k d),
    λ p k d a b f g e. grind (arith, get_or-set_other xs h p x d, get_or-set_other xs h k x d, w p h d, w h k d, (heap.ranks o).chain (get_or xs p d) (get_or (set xs h x) h d) (get_or xs k d)),
  )

  pub falls : (xs ys : List X) (j c n : ℕ) → j * 2 + 1 ≤ c → c ≤ j * 2 + 2 → c < n → c < length xs → ys ≡ swap xs j c → IsGreaterChild R xs j c n
      → IsHeapWithHole (lt_by_cmp R) xs j n → IsHeapWithHole (lt_by_cmp R) ys c n
  unfolding IsGreaterChild
  falls xs ys j c n from to in' long is best h = (
    λ p k d a b f u v. let s = swap_places xs ys j c d (omega arith) long is in grind (arith, which p j, which k j, best k d, h.1 p c d, h.0 p k d, s.2 p, s.2 k),
    λ p k d a b f g i. let s = swap_places xs ys j c d (omega arith) long is in grind (arith, h.0 c k d, s.2 k),
  )

  pub closes : (ys zs : List X) (j : ℕ) → length ys / 2 ≤ j → j < length ys → length zs ≡ length ys → IsHeapWithHole (lt_by_cmp R) ys j (length ys) → SiftsUp R ys j zs → IsHeap R zs
  unfolding SiftsUp IsHeap
  closes ys zs j leaf in' long was rises = subst (IsHeapWithin (lt_by_cmp R) zs 0) (sym long) (rises (length ys) in' (was, λ k d a b f. absurd (omega arith)))

  pub agrees : (xs ys : List X) → length ys ≤ length xs → ((i : ℕ) (d : X) → i < length ys → get_or ys i d ≡ get_or xs i d) → IsHeap R xs → IsHeap R ys
  unfolding IsHeap
  agrees xs ys le same w p k d lo a b f = grind (arith, same p d, same k d, w p k d)
