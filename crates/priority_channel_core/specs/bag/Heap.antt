-- The order of both kinds of heap.
use Rattle.std.specs.Prelude.{ℕ, Bool, true, false, List, slice_set}
use Rattle.std.specs.declared.cmp.Ordering.{Ordering}
use Rattle.std.specs.BinaryHeap.{IsHeap}
use Rattle.priority_channel_core.specs.bag.IntervalHeap.{IsIntervalHeap}

module _ {X : Type 0} (R : X → X → Ordering) where
  -- a binary heap, or an interval heap, which has two ends
  abbrev pub IsOrdered : Bool → List X → Type 0
  IsOrdered false xs = IsHeap R xs
  IsOrdered true xs = IsIntervalHeap R xs

  -- ys is in order if xs would be with some other item at h
  abbrev pub MendsAt : Bool → ℕ → List X → List X → Type 0
  MendsAt has_two_ends h xs ys =
      (x : X) → IsOrdered has_two_ends (slice_set xs h x) → IsOrdered has_two_ends ys
