-- What the moves preserve of an interval heap.
use Rattle.std.proofs.Common.{◌≡◌, ℕ, zero, suc, ◌+◌, ◌-◌, ◌*◌, ◌/◌, ◌%◌, ◌<◌, ◌≤◌, ◌≢◌, Bool, true, false, List, length, get_or, set, get_or-set_other, min, arith, length-set}
use Rattle.std.proofs.Permutation.{which}
use Rattle.std.proofs.HeapSift as heap
use Rattle.std.specs.BinaryHeap.{lt_by_cmp}
use Rattle.std.specs.BinaryHeap.Sift.{ComparesAt}
use Rattle.std.specs.Cmp.{IsTotalOrder, IsStrictWeakOrder}
use Rattle.std.specs.List.{SwappedAt}
use Rattle.priority_channel_core.specs.bag.Prelude.{IsOver, own_low, high, low, IsIntervalHeapWithin, IsIntervalHeap, IsLeastAt, InOrderBut, AtMostTooGreat, AtMostTooSmall, Ordering}

pub ruleset over = (own_low, high, low)

pub is_single : {X : Type 0} (R : X → X → Ordering) (xs : List X) → length xs ≤ 1 → IsIntervalHeap R xs
unfolding IsIntervalHeapWithin
is_single R xs one a b r p q d = grind arith

module _ {X : Type 0} (R : X → X → Ordering) (o : IsTotalOrder R) where
  abbrev lt : X → X → Bool
  lt = lt_by_cmp R

  ranks : IsStrictWeakOrder lt
  ranks = heap.ranks o

  -- the item at h is in order too
  closes : (xs : List X) (h : ℕ) → InOrderBut R xs h → ((a : ℕ) → IsOver a h → a < length xs → ComparesAt R xs a h false)
      → ((b : ℕ) → IsOver h b → b < length xs → ComparesAt R xs h b false) → IsIntervalHeap R xs
  unfolding IsIntervalHeapWithin
  closes xs h w over under a b r p q d = grind (arith, which a h, which b h, w.apart a b, over a, under b)

  -- The item at h and the item at g change places.
  module _ (xs ys : List X) (h g : ℕ) (gn : g < length xs) (long : length ys ≡ length xs) (sw : SwappedAt xs ys h g) where
    -- an item falls to a place under it
    falls : IsOver h g → InOrderBut R xs h → ((b : ℕ) → IsOver h b → b < length xs → b ≢ g → ComparesAt R xs g b false) → InOrderBut R ys g
    falls hg w best = record {
      apart = λ a b r p q u v d. grind (arith, which a h, which b h, w.apart a b, w.across a g, best b, sw);
      across = λ a b r s p q d. grind (arith, which a h, w.apart a g, w.apart g b, ranks.chain (get_or xs a d) (get_or xs g d) (get_or xs b d), sw);
    }

    -- an item climbs to a place over it
    climbs : IsOver g h → InOrderBut R xs h → ((a : ℕ) → IsOver a h → a < length xs → a ≢ g → ComparesAt R xs a g false) → InOrderBut R ys g
    climbs gh w best = record {
      apart = λ a b r p q u v d. grind (arith, which a h, which b h, w.apart a b, w.across g b, best a, sw);
      across = λ a b r s p q d. grind (arith, which b h, w.apart a g, w.apart g b, ranks.chain (get_or xs a d) (get_or xs g d) (get_or xs b d), sw);
    }

    -- an item at a high is less than the low that it faces
    pub goes_low : IsOver h g → ((b : ℕ) → IsOver h b → b < length xs → b ≢ g → IsOver g b) → ComparesAt R xs h g true → InOrderBut R xs h → AtMostTooSmall R ys g
    goes_low hg faces t w = record {
      others = falls hg w (λ b r p u d. grind (arith, w.apart g b, faces b));
      over = λ a r p d. grind (arith, which a h, w.apart a g, ranks.one_way (get_or xs h d) (get_or xs g d), ranks.chain (get_or xs a d) (get_or xs g d) (get_or xs h d), sw, t d);
    }

    -- an item at a low is greater than the high that it faces
    pub goes_high : IsOver g h → ((a : ℕ) → IsOver a h → a < length xs → a ≢ g → IsOver a g) → ComparesAt R xs g h true → InOrderBut R xs h → AtMostTooGreat R ys g
    goes_high gh faces t w = record {
      others = climbs gh w (λ a r p u d. grind (arith, w.apart a g, faces a));
      under = λ b r p d. grind (arith, which b h, w.apart g b, ranks.one_way (get_or xs g d) (get_or xs h d), ranks.chain (get_or xs h d) (get_or xs g d) (get_or xs b d), sw, t d);
    }

    -- a step of `rise` at a high, and at a low
    pub rises_high : h % 2 ≡ 0 → 1 < h → g ≡ (h - 2) / 4 * 2 → ComparesAt R xs g h true → AtMostTooGreat R xs h → AtMostTooGreat R ys g
    rises_high e more is t w = goes_high (grind (arith, high)) (λ a r p u. grind arith) t w.others

    pub rises_low : h % 2 ≡ 1 → 1 < h → g ≡ (h - 2) / 4 * 2 + 1 → ComparesAt R xs h g true → AtMostTooSmall R xs h → AtMostTooSmall R ys g
    rises_low e more is t w = goes_low (grind (arith, low)) (λ b r p u. grind arith) t w.others

  -- the item stays
  pub stays_high : (xs : List X) (h g : ℕ) → g < length xs → IsOver h g → ((b : ℕ) → IsOver h b → b < length xs → b ≢ g → IsOver g b) → ComparesAt R xs h g false → InOrderBut R xs h → AtMostTooGreat R xs h
  stays_high xs h g gn hg faces t w = record {
    others = w;
    under = λ b r p d. grind (arith, which b g, faces b, w.apart g b, t d, ranks.chain (get_or xs h d) (get_or xs g d) (get_or xs b d));
  }

  pub stays_low : (xs : List X) (h g : ℕ) → g < length xs → IsOver g h → ((a : ℕ) → IsOver a h → a < length xs → a ≢ g → IsOver a g) → ComparesAt R xs g h false → InOrderBut R xs h → AtMostTooSmall R xs h
  stays_low xs h g gn gh faces t w = record {
    others = w;
    over = λ a r p d. grind (arith, which a g, faces a, w.apart a g, t d, ranks.chain (get_or xs a d) (get_or xs g d) (get_or xs h d));
  }

  -- The ends of the rises.
  pub rests_high : (xs : List X) (h : ℕ) → h % 2 ≡ 0 → (1 < h → ComparesAt R xs ((h - 2) / 4 * 2) h false) → AtMostTooGreat R xs h → IsIntervalHeap R xs
  rests_high xs h e t w = closes xs h w.others (λ a r p d. grind (arith, t)) w.under

  pub rests_low : (xs : List X) (h : ℕ) → h % 2 ≡ 1 → (1 < h → ComparesAt R xs h ((h - 2) / 4 * 2 + 1) false) → AtMostTooSmall R xs h → IsIntervalHeap R xs
  rests_low xs h e t w = closes xs h w.others w.over (λ b r p d. grind (arith, t))

  -- What `settle` and the two functions that mend begin with.
  pub opens_last : (xs : List X) (h : ℕ) → h + 1 ≡ length xs → IsIntervalHeapWithin R xs (length xs - 1) → InOrderBut R xs h
  unfolding IsIntervalHeapWithin
  opens_last xs h e w = record {
    apart = λ a b r p q u v d. grind (arith, w a b);
    across = λ a b r s p q d. grind (arith, w a b, own_low, low);
  }

  pub opens_at : (xs : List X) (h : ℕ) (x : X) → h < length xs → IsIntervalHeap R (set xs h x) → InOrderBut R xs h
  unfolding IsIntervalHeapWithin
  opens_at xs h x hn w = let long = length-set xs h x in record {
    apart = λ a b r p q u v d. grind (arith, w a b r, get_or-set_other xs h a x d, get_or-set_other xs h b x d);
    across = λ a b r s p q d. grind (arith, w a h r, w h b s, get_or-set_other xs h a x d, get_or-set_other xs h b x d, ranks.chain (get_or xs a d) (get_or (set xs h x) h d) (get_or xs b d));
  }

  itself : (x : X) → lt x x ≡ false
  itself x = grind (arith, ranks.one_way x x)

  -- The ends of an interval heap.
  module _ (xs : List X) (n : ℕ) (w : IsIntervalHeapWithin R xs n) where
    pub greatest_first : (fuel k : ℕ) → k ≤ fuel → k < n → ComparesAt R xs 0 k false
    unfolding IsIntervalHeapWithin
    greatest_first zero k a b d = grind (arith, itself (get_or xs 0 d))
    greatest_first (suc fuel) k a b d =
        let up = (k - 2) / 4 * 2 in
        grind (arith, which k 0, which k 1, itself (get_or xs 0 d), w 0 1, w up k, own_low, high, greatest_first fuel up, ranks.chain (get_or xs 0 d) (get_or xs up d) (get_or xs k d))

    pub least_second : (fuel k : ℕ) → k ≤ fuel → k < n → 1 < n → ComparesAt R xs k 1 false
    unfolding IsIntervalHeapWithin
    least_second zero k a b c d = grind (arith, w 0 1, own_low)
    least_second (suc fuel) k a b c d =
        let up = (k - 2) / 4 * 2 + 1 in
        grind (arith, which k 0, which k 1, itself (get_or xs 1 d), w 0 1, w k up, own_low, low, least_second fuel up, ranks.chain (get_or xs k d) (get_or xs up d) (get_or xs 1 d))

  pub is_least : (xs : List X) → 1 < length xs → IsIntervalHeap R xs → IsLeastAt R xs 1
  is_least xs more w k p = least_second xs (length xs) w k k (omega arith) p more

  -- A step of each fall.
  module _ (xs : List X) (h c : ℕ) (w : InOrderBut R xs h) (cn : c < length xs) where
    -- c is the greater of the highs of both pairs below
    greatest_child : h % 2 ≡ 0 → h * 2 + 2 ≤ c → c ≤ h * 2 + 4 → c % 2 ≡ 0 → ComparesAt R xs c (h * 2 + 2) false → (h * 2 + 4 < length xs → ComparesAt R xs c (h * 2 + 4) false)
        → (b : ℕ) → IsOver h b → b < length xs → b ≢ c → ComparesAt R xs c b false
    greatest_child e lo hi even left right b r p u d =
        let by = λ (m : ℕ). ranks.chain (get_or xs c d) (get_or xs m d) (get_or xs b d) in
        grind (arith, over, w.apart c b, w.apart (b - 1) b, w.apart c (h + 1), w.apart (h + 1) b, left d, right, which b (h * 2 + 2), which b (h * 2 + 4), by (b - 1), by (h + 1))

    -- c is the lesser of their lows; the last high stands for its low
    least_child : h % 2 ≡ 1 → h * 2 ≤ c → c ≤ h * 2 + 3 → ComparesAt R xs (min (h * 2 + 1) (length xs - 1)) c false → ComparesAt R xs (min (h * 2 + 3) (length xs - 1)) c false
        → (a : ℕ) → IsOver a h → a < length xs → a ≢ c → ComparesAt R xs a c false
    least_child e lo hi left right a r p u d =
        let by = λ (m : ℕ). ranks.chain (get_or xs a d) (get_or xs m d) (get_or xs c d) in
        grind (arith, over, w.apart a c, w.apart a (a + 1), w.apart a (h - 1), w.apart (h - 1) c, left d, right d, which a (h * 2 + 1), which a (h * 2 + 3), by (a + 1), by (h - 1))

    pub falls_high : (ys : List X) → length ys ≡ length xs → SwappedAt xs ys h c → h % 2 ≡ 0 → h * 2 + 2 ≤ c → c ≤ h * 2 + 4 → c % 2 ≡ 0
        → ComparesAt R xs c (h * 2 + 2) false → (h * 2 + 4 < length xs → ComparesAt R xs c (h * 2 + 4) false) → InOrderBut R ys c
    falls_high ys long sw e lo hi even left right = falls xs ys h c cn long sw (high e lo (omega arith)) w (greatest_child e lo hi even left right)

    pub falls_low : (ys : List X) → length ys ≡ length xs → SwappedAt xs ys h c → h % 2 ≡ 1 → h * 2 ≤ c → c ≤ h * 2 + 3
        → ComparesAt R xs (min (h * 2 + 1) (length xs - 1)) c false → ComparesAt R xs (min (h * 2 + 3) (length xs - 1)) c false → InOrderBut R ys c
    falls_low ys long sw e lo hi left right = climbs xs ys h c cn long sw (low e lo hi) w (least_child e lo hi left right)

  pub agrees : (xs ys : List X) (n m : ℕ) → m ≤ n → ((i : ℕ) (d : X) → i < m → get_or ys i d ≡ get_or xs i d) → IsIntervalHeapWithin R xs n → IsIntervalHeapWithin R ys m
  unfolding IsIntervalHeapWithin
  agrees xs ys n m le same w a b r p q d = grind (arith, same a d, same b d, w a b)
