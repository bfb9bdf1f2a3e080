-- The element at a position of a list that was mapped, or changed at one position.
use Rattle.std.proofs.Common.{◌≡◌, ◌≢◌, ℕ, ◌⊎◌, List, [], ◌∷◌, map, set, refl, ap, ◌∙◌, inl, inr, arith, zero, suc, Option, Some, slice_get, option_map, All}
use Rattle.std.proofs.lemmas.Option.{slice_get-map, slice_get_within, get_or_from_slice_get}

module _ {A : Type 0} where
  pub Some-same : (o : Option A) (x y : A) → o ≡ Some x → o ≡ Some y → x ≡ y
  Some-same o x y p q = cc

  pub all_at : (Q : A → Type 0) (xs : List A) (i : ℕ) (x : A) → All Q xs → slice_get xs i ≡ Some x → Q x
  all_at Q xs i x all at = rw (get_or_from_slice_get xs i x x at) at (all i x (slice_get_within xs i x at))

  pub mapped_at : {B : Type 0} (f : A → B) (xs : List A) (i : ℕ) (y : B) → slice_get (map f xs) i ≡ Some y → (x : A) × (slice_get xs i ≡ Some x) × (f x ≡ y)
  mapped_at f [] i y h = absurd (cc)
  mapped_at f (x ∷ xs) zero y h = (x, refl, cc)
  mapped_at f (x ∷ xs) (suc i) y h = mapped_at f xs i y h

  pub at_mapped : {B : Type 0} (f : A → B) (xs : List A) (i : ℕ) (x : A) → slice_get xs i ≡ Some x → slice_get (map f xs) i ≡ Some (f x)
  at_mapped f xs i x h = slice_get-map f xs i ∙ ap (option_map f) h

  pub changed_at : (xs : List A) (i j : ℕ) (x y : A) → slice_get (set xs i x) j ≡ Some y → ((i ≡ j) × (x ≡ y)) ⊎ ((i ≢ j) × (slice_get xs j ≡ Some y))
  changed_at [] i j x y h = absurd (cc)
  changed_at (z ∷ xs) zero zero x y h = inl (refl, cc)
  changed_at (z ∷ xs) zero (suc j) x y h = inr ((λ e. cc), h)
  changed_at (z ∷ xs) (suc i) zero x y h = inr ((λ e. cc), h)
  changed_at (z ∷ xs) (suc i) (suc j) x y h = grind (arith, changed_at xs i j x y h)

  pub at_changed : (xs : List A) (i : ℕ) (x y : A) → slice_get xs i ≡ Some y → slice_get (set xs i x) i ≡ Some x
  at_changed [] i x y h = absurd (cc)
  at_changed (z ∷ xs) zero x y h = refl
  at_changed (z ∷ xs) (suc i) x y h = at_changed xs i x y h

  pub at_unchanged : (xs : List A) (i j : ℕ) (x y : A) → i ≢ j → slice_get xs j ≡ Some y → slice_get (set xs i x) j ≡ Some y
  at_unchanged [] i j x y ne h = absurd (cc)
  at_unchanged (z ∷ xs) zero zero x y ne h = absurd (ne refl)
  at_unchanged (z ∷ xs) zero (suc j) x y ne h = h
  at_unchanged (z ∷ xs) (suc i) zero x y ne h = h
  at_unchanged (z ∷ xs) (suc i) (suc j) x y ne h = at_unchanged xs i j x y (λ e. ne (ap suc e)) h
