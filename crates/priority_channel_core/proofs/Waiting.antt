-- A ticket in a waiting list whose tickets rise.
use Rattle.std.proofs.Common.{◌≡◌, ℕ, zero, suc, ◌+◌, ◌<◌, ◌≤◌, ◌≢◌, Bool, true, false, not, List, [], ◌∷◌, length, get_or, set, refl, sym, ap, ◌∙◌, arith, eq-eqb, ◌==◌, ◌++◌, if◌then◌else◌, Option, Some, None, option_to_list}
use Rattle.std.specs.List.{All, AllWithin, HoldsAt, filter, remove}
use Rattle.std.proofs.lemmas.List.{same_lists, length-set, length-map, get_or-set_same, get_or-set_other, get_or-map}
use Rattle.std.proofs.lemmas.List.Elements.{All-head, All-tail}
use Rattle.std.proofs.lemmas.List.Folds.{list_any_none, list_any_at}
use Rattle.std.proofs.lemmas.List.Kept.{AllPairs-filter}
use Rattle.std.proofs.lemmas.Bool.Decides.{nat_tests}
use Rattle.std.specs.Ordering.{MatchOrdering, nat_cmp}
use Rattle.priority_channel_core.specs.Prelude.{IsRising, is_listed, without, with_waker, listing, Ordering}

-- the meaning of a comparison of two numbers
pub ranked : (o : Ordering) (x y : ℕ) → o ≡ nat_cmp x y → MatchOrdering o (x < y) (x ≡ y) (y < x)
ranked o x y e = grind arith

pub filter_kept : {X : Type 0} (p : X → Bool) (xs : List X) → All (λ x. p x ≡ true) xs → filter p xs ≡ xs
filter_kept p [] h = refl
filter_kept p (x ∷ xs) h = rw (All-head (λ y. p y ≡ true) x xs h) (ap (λ l. x ∷ l) (filter_kept p xs (All-tail (λ y. p y ≡ true) x xs h)))

module _ {W : Type 0} where
  pub below_rising : (xs : List (ℕ × W)) (t i : ℕ) → IsRising xs → i < length xs → HoldsAt (λ a. a.0 < t) xs i → AllWithin (λ a. a.0 < t) xs 0 (i + 1)
  below_rising xs t i rising lt here = grind arith

  pub above_rising : (xs : List (ℕ × W)) (t i : ℕ) → IsRising xs → HoldsAt (λ a. t < a.0) xs i → AllWithin (λ a. t < a.0) xs i (length xs)
  above_rising xs t i rising here = grind arith

  pub absent_between : (xs : List (ℕ × W)) (t low high : ℕ) → high ≤ low → AllWithin (λ a. a.0 < t) xs 0 low → AllWithin (λ a. t < a.0) xs high (length xs) → is_listed t xs ≡ false
  absent_between xs t low high le below above =
      list_any_none (λ a. a.0 == t) xs (grind (arith, nat_tests))

  others_differ : (xs : List (ℕ × W)) (t i k : ℕ) (d : ℕ × W) → IsRising xs → i < length xs → k < length xs → HoldsAt (λ a. a.0 ≡ t) xs i → k ≢ i → ((get_or xs k d).0 == t) ≡ false
  others_differ xs t i k d rising lt lk here ne = grind (arith, nat_tests)

  pub set_rising : (xs : List (ℕ × W)) (t i : ℕ) (w : W) → IsRising xs → i < length xs → HoldsAt (λ a. a.0 ≡ t) xs i → set xs i (t, w) ≡ with_waker t w xs
  set_rising xs t i w rising lt here =
      let f : ℕ × W → ℕ × W = λ a. if a.0 == t then (t, w) else a in
      same_lists (set xs i (t, w)) (with_waker t w xs) (length-set xs i (t, w) ∙ sym (length-map xs f)) (λ k d lk.
      let within : k < length xs = omega (arith, length-set xs i (t, w)) in
      let other = others_differ xs t i k d rising lt within here in let h = here d in let m = get_or-map f xs k d d within in
      let s = get_or-set_same xs i (t, w) d lt in let o = get_or-set_other xs i k (t, w) d in grind (arith, nat_tests))

  pub rising-with_waker : (xs : List (ℕ × W)) (t : ℕ) (w : W) → IsRising xs → IsRising (with_waker t w xs)
  rising-with_waker xs t w rising = λ i j d l m.
      let f : ℕ × W → ℕ × W = λ a. if a.0 == t then (t, w) else a in
      let a = get_or-map f xs i d d in let b = get_or-map f xs j d d in let r = rising i j d l in grind (arith, nat_tests, length-map)

  pub remove_rising : (xs : List (ℕ × W)) (t i : ℕ) → IsRising xs → i < length xs → HoldsAt (λ a. a.0 ≡ t) xs i → remove xs i ≡ without t xs
  remove_rising [] t i rising lt here = absurd (omega arith)
  remove_rising (x ∷ xs) t zero rising lt here =
      let more = filter_kept (λ a. not (a.0 == t)) xs (λ k d l. let r = rising 0 (suc k) d in let h = here x in grind (arith, nat_tests)) in
      let h = here x in grind (arith, nat_tests)
  remove_rising (x ∷ xs) t (suc i) rising lt here =
      let more = remove_rising xs t i (λ k j d l m. rising (suc k) (suc j) d (omega arith) (omega arith)) (omega arith) (λ d. here d) in
      let r = rising 0 (suc i) x (omega arith) lt in let h = here x in grind (arith, nat_tests)

  pub listed_at : (xs : List (ℕ × W)) (t i : ℕ) → i < length xs → HoldsAt (λ a. a.0 ≡ t) xs i → is_listed t xs ≡ true
  listed_at [] t i lt here = absurd (omega arith)
  listed_at (x ∷ xs) t i lt here = list_any_at (λ a. a.0 == t) (x ∷ xs) i x lt (eq-eqb _ t (here x))

  pub all_from_unlisted : (xs : List (ℕ × W)) (t : ℕ) → is_listed t xs ≡ false → All (λ a. (a.0 == t) ≡ false) xs
  all_from_unlisted xs t none = grind (arith, list_any_at)

  pub without_unlisted : (xs : List (ℕ × W)) (t : ℕ) → is_listed t xs ≡ false → without t xs ≡ xs
  without_unlisted xs t none = filter_kept (λ a. not (a.0 == t)) xs (grind (arith, list_any_at))

  pub listing_renewed : (xs : List (ℕ × W)) (t next : ℕ) (w : W) → is_listed t xs ≡ true
      → listing (Some t) w xs next ≡ record { ticket = t; waiters = with_waker t w xs; next_ticket = next }
  listing_renewed xs t next w h = rw h refl

  pub rising-without : (xs : List (ℕ × W)) (t : ℕ) → IsRising xs → IsRising (without t xs)
  rising-without xs t rising = AllPairs-filter (λ a b. a.0 < b.0) (λ a. not (a.0 == t)) xs rising

  pub rising-behind : (first : Option (ℕ × W)) (others : List (ℕ × W)) → IsRising (option_to_list first ++ others) → IsRising others
  rising-behind None others rising = rising
  rising-behind (Some first) others rising = λ i j d before within. rising (suc i) (suc j) d (omega arith) (omega arith)
