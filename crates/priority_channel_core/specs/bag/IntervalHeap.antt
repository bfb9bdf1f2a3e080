-- Where the items of an interval heap are, and their order.
--
-- The items are in pairs: a high at each even place, and its low right behind it. Below the pair of
-- the high at h and the low at l are two pairs, from h * 2 + 2 on, which is l * 2.
use Rattle.std.specs.Prelude.{◌≡◌, ℕ, ◌+◌, ◌*◌, ◌%◌, ◌<◌, ◌≤◌, ◌≢◌, false, List, length}
use Rattle.std.specs.BinaryHeap.Sift.{ComparesAt}
use Rattle.std.specs.List.{SwappedAt}
use Rattle.std.specs.declared.cmp.Ordering.{Ordering}

-- a high is over its low, and each item of the two pairs below is between both
pub data IsOver (a b : ℕ) : Type 0 where
  own_low : a % 2 ≡ 0 → b ≡ a + 1 → IsOver a b
  high : a % 2 ≡ 0 → a * 2 + 2 ≤ b → b ≤ a * 2 + 5 → IsOver a b
  low : b % 2 ≡ 1 → b * 2 ≤ a → a ≤ b * 2 + 3 → IsOver a b

module _ {X : Type 0} (R : X → X → Ordering) where
  -- of the first n items, none is less than one under it
  unfoldable pub IsIntervalHeapWithin : List X → ℕ → Type 0
  IsIntervalHeapWithin xs n = (a b : ℕ) → IsOver a b → a < n → b < n → ComparesAt R xs a b false

  abbrev pub IsIntervalHeap : List X → Type 0
  IsIntervalHeap xs = IsIntervalHeapWithin xs (length xs)

  abbrev pub IsLeastAt : List X → ℕ → Type 0
  IsLeastAt xs i = (k : ℕ) → k < length xs → ComparesAt R xs k i false

  -- an interval heap except for the item at h
  pub record InOrderBut (xs : List X) (h : ℕ) : Type 0 where
    pub apart : (a b : ℕ) → IsOver a b → a < length xs → b < length xs → a ≢ h → b ≢ h
        → ComparesAt R xs a b false
    pub across : (a b : ℕ) → IsOver a h → IsOver h b → a < length xs → b < length xs
        → ComparesAt R xs a b false

  -- once the items at h and c have changed places, only the item at c may be out of order
  abbrev pub FallsTo : List X → ℕ → ℕ → Type 0
  FallsTo xs h c = (ys : List X) → length ys ≡ length xs → SwappedAt xs ys h c
      → InOrderBut xs h → InOrderBut ys c

  -- the item at h may be greater than the items over it
  pub record AtMostTooGreat (xs : List X) (h : ℕ) : Type 0 where
    pub others : InOrderBut xs h
    pub under : (b : ℕ) → IsOver h b → b < length xs → ComparesAt R xs h b false

  -- the item at h may be less than the items under it
  pub record AtMostTooSmall (xs : List X) (h : ℕ) : Type 0 where
    pub others : InOrderBut xs h
    pub over : (a : ℕ) → IsOver a h → a < length xs → ComparesAt R xs a h false
