-- A list sorted by its keys.
use Rattle.std.proofs.Common.{◌≡◌, ℕ, zero, suc, ◌+◌, ◌<◌, ◌≤◌, ◌≢◌, Bool, false, List, [], ◌∷◌, ◌++◌, length, get_or, set, eqb, inl, inr, refl, sym, ap, ◌∙◌, arith, IsPermutation}
use Rattle.std.specs.Bool.{⊤}
use Rattle.std.specs.List.{swap, IsDistinct, AllByRecursion}
use Rattle.std.proofs.SliceLists.{swap_is}
use Rattle.std.proofs.lemmas.Bool.{cases_lt, eqb-false}
use Rattle.std.proofs.lemmas.Bool.Decides.{nat_tests}
use Rattle.std.proofs.lemmas.List.Sorted.{IsPermutation-refl, IsPermutation-trans, IsPermutation-cons, IsPermutation-middle, IsPermutation-keeps, IsPermutation-swap}
use Rattle.std.proofs.lemmas.List.Elements.{All-from_recursion}
use Rattle.std.proofs.lemmas.Map.Keys.{IsDistinct-IsPermutation}
use Rattle.priority_channel_core.specs.bag.Prelude.{put_in, by_key}

module _ {X : Type 0} where
  pub every_weaker : (P Q : X → Type 0) → ((x : X) → P x → Q x) → (xs : List X) → AllByRecursion P xs → AllByRecursion Q xs
  every_weaker P Q f [] p = tt
  every_weaker P Q f (x ∷ xs) p = (f x p.0, every_weaker P Q f xs p.1)

module _ {X : Type 0} (key : X → ℕ) where
  abbrev same_key : X → X → Bool
  same_key x y = eqb (key x) (key y)

  put_in_commutes : (x y : X) (s : List X) → key x ≢ key y → put_in key x (put_in key y s) ≡ put_in key y (put_in key x s)
  unfolding put_in
  put_in_commutes x y [] h = grind (arith, nat_tests)
  put_in_commutes x y (z ∷ s) h = let e = put_in_commutes x y s h in grind (arith, nat_tests, e)

  pub length-put_in : (x : X) (s : List X) → length (put_in key x s) ≡ length s + 1
  unfolding put_in
  length-put_in x [] = refl
  length-put_in x (z ∷ s) = let e = length-put_in x s in grind (arith, nat_tests, e)

  pub length-by_key : (xs : List X) → length (by_key key xs) ≡ length xs
  unfolding by_key
  length-by_key [] = refl
  length-by_key (x ∷ xs) = omega (arith, length-by_key xs, length-put_in x (by_key key xs))

  every_put_in : (P : X → Type 0) (x : X) (s : List X) → P x → AllByRecursion P s → AllByRecursion P (put_in key x s)
  unfolding put_in
  every_put_in P x [] p h = (p, tt)
  every_put_in P x (z ∷ s) p h = let e = every_put_in P x s p h.1 in grind (arith, nat_tests, e)

  pub every_by_key : (P : X → Type 0) (xs : List X) → AllByRecursion P xs → AllByRecursion P (by_key key xs)
  unfolding by_key
  every_by_key P [] h = tt
  every_by_key P (x ∷ xs) h = every_put_in P x (by_key key xs) h.0 (every_by_key P xs h.1)

  put_in_moves : (x : X) (s : List X) → IsPermutation (put_in key x s) (x ∷ s)
  unfolding put_in
  put_in_moves x [] = IsPermutation-refl (x ∷ [])
  put_in_moves x (z ∷ s) =
      let behind = IsPermutation-trans _ _ _ (IsPermutation-cons z _ _ (put_in_moves x s)) (IsPermutation-middle (z ∷ []) x s) in
      let before = IsPermutation-refl (x ∷ z ∷ s) in
      grind (arith, nat_tests, behind, before)

  pub by_key_moves : (xs : List X) → IsPermutation (by_key key xs) xs
  unfolding by_key
  by_key_moves [] = IsPermutation-refl []
  by_key_moves (x ∷ xs) = IsPermutation-trans _ _ _ (put_in_moves x (by_key key xs)) (IsPermutation-cons x _ _ (by_key_moves xs))

  put_in-push : (y x : X) (s : List X) → key y < key x → put_in key y (s ++ x ∷ []) ≡ put_in key y s ++ x ∷ []
  unfolding put_in
  put_in-push y x [] h = grind (arith, nat_tests)
  put_in-push y x (z ∷ s) h = let e = put_in-push y x s h in grind (arith, nat_tests, e)

  pub by_key-push : (xs : List X) (x : X) → AllByRecursion (λ y. key y < key x) xs → by_key key (xs ++ x ∷ []) ≡ by_key key xs ++ x ∷ []
  unfolding by_key put_in
  by_key-push [] x h = refl
  by_key-push (y ∷ xs) x h = ap (put_in key y) (by_key-push xs x h.1) ∙ put_in-push y x (by_key key xs) h.0

  replaced : (r : List X) (j : ℕ) (x d : X) → j < length r → IsDistinct same_key (x ∷ r) → put_in key (get_or r j d) (by_key key (set r j x)) ≡ put_in key x (by_key key r)
  unfolding IsDistinct by_key
  replaced [] j x d p h = absurd (omega arith)
  replaced (y ∷ r) zero x d p h = put_in_commutes y x (by_key key r) (λ e. eqb-false _ _ h.0.0 (sym e))
  replaced (y ∷ r) (suc j) x d p h =
      let at = All-from_recursion (λ z. same_key y z ≡ false) r h.1.0 j d (omega arith) in
      put_in_commutes (get_or r j d) y (by_key key (set r j x)) (λ e. eqb-false _ _ at (sym e))
      ∙ ap (put_in key y) (replaced r j x d (omega arith) (h.0.1, h.1.1))
      ∙ put_in_commutes y x (by_key key r) (λ e. eqb-false _ _ h.0.0 (sym e))

  swapped : (l : List X) (i j : ℕ) → i < length l → j < length l → IsDistinct same_key l → by_key key (swap l i j) ≡ by_key key l
  unfolding by_key IsDistinct
  swapped [] i j p q h = refl
  swapped (x ∷ r) zero zero p q h = refl
  swapped (x ∷ r) zero (suc j) p q h = replaced r j x x (omega arith) h
  swapped (x ∷ r) (suc i) zero p q h = replaced r i x x (omega arith) h
  swapped (x ∷ r) (suc i) (suc j) p q h =
      ap (λ l. put_in key x (by_key key l)) (swap_is r i j x (omega arith) (omega arith)) ∙ ap (put_in key x) (swapped r i j (omega arith) (omega arith) h.1)

  flips : (x y : X) → same_key x y ≡ same_key y x
  flips x y = grind (arith, nat_tests)

  pub still_apart : (xs ys : List X) → IsPermutation xs ys → IsDistinct same_key xs → IsDistinct same_key ys
  still_apart xs ys = IsDistinct-IsPermutation same_key flips xs ys

  pub by_key_permutation : (xs ys : List X) → IsPermutation xs ys → IsDistinct same_key xs → by_key key ys ≡ by_key key xs
  by_key_permutation xs ys moves h =
      (IsPermutation-keeps xs (λ l. IsDistinct same_key l × (by_key key l ≡ by_key key xs)) (h, refl)
      (λ l i j p q was. (still_apart l (swap l i j) (IsPermutation-swap l _ i j p q refl) was.0, swapped l i j p q was.0 ∙ was.1)) ys moves).1

  pub Rises : List X → Type 0
  Rises [] = ⊤
  Rises (x ∷ s) = AllByRecursion (λ y. key x ≤ key y) s × Rises s

  rises_put_in : (x : X) (s : List X) → Rises s → Rises (put_in key x s)
  unfolding put_in Rises
  rises_put_in x [] h = (tt, tt)
  rises_put_in x (z ∷ s) h =
      let r = rises_put_in x s h.1 in
      let above = λ (le : key x ≤ key z). every_weaker (λ y. key z ≤ key y) (λ y. key x ≤ key y) (λ y p. omega arith) s h.0 in
      grind (arith, nat_tests, r, above, every_put_in (λ y. key z ≤ key y) x s)

  pub rises_by_key : (xs : List X) → Rises (by_key key xs)
  unfolding by_key Rises
  rises_by_key [] = tt
  rises_by_key (x ∷ xs) = rises_put_in x (by_key key xs) (rises_by_key xs)

  -- the place where an element is put in, and each other with the same key
  pub record PutIn (x : X) (s : List X) : Type 0 where
    pub front : List X
    pub back : List X
    pub whole : (y : X) → key y ≡ key x → put_in key y s ≡ front ++ y ∷ back
    pub rest : s ≡ front ++ back
    pub upto : AllByRecursion (λ y. key y ≤ key x) front
    pub beyond : Rises s → AllByRecursion (λ y. key x < key y) back

  pub splits : (x : X) (s : List X) → PutIn x s
  unfolding put_in Rises
  splits x [] = record { front = []; back = []; whole = λ y q. refl; rest = refl; upto = tt; beyond = λ h. tt }
  splits x (z ∷ s) = let i = splits x s in elim (cases_lt (key x) (key z)) [
    | inl lt ↦ record {
      front = [];
      back = z ∷ s;
      whole = λ y q. grind (arith, nat_tests);
      rest = refl;
      upto = tt;
      beyond = λ h. (lt, every_weaker (λ y. key z ≤ key y) (λ y. key x < key y) (λ y p. omega arith) s h.0);
    }
    | inr le ↦ record {
      front = z ∷ i.front;
      back = i.back;
      whole = λ y q. let e = i.whole y q in grind (arith, nat_tests, e);
      rest = ap (λ l. z ∷ l) i.rest;
      upto = (le, i.upto);
      beyond = λ h. i.beyond h.1;
    }
  ]
