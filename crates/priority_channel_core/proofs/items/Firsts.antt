-- Which item comes before all others that pass.
use Rattle.std.proofs.Common.{◌≡◌, ℕ, ◌+◌, ◌<◌, ◌≤◌, List, length, get_or, arith, Option, None, Some, IfSome, IfNone, Bool, true, false, sym, subst, ◌∙◌, inl, inr}
use Rattle.std.proofs.lemmas.Bool.{true≢false}
use Rattle.std.proofs.Permutation.{which}

module _ {X : Type 0} (passes fails : X → Type 0) (Before : X → X → Type 0) (xs : List X) where
  -- it is the one at `first`, among the first n items
  pub record FoundWithin (n : ℕ) (first : Option ℕ) : Type 0 where
    pub within : IfSome first (λ f. f < length xs)
    pub found : IfSome first (λ f. (d : X) → passes (get_or xs f d))
    pub ahead : IfSome first (λ f. (k : ℕ) (d : X) → k < n → Before (get_or xs k d) (get_or xs f d) → fails (get_or xs k d))
    pub none : IfNone first ((k : ℕ) (d : X) → k < n → fails (get_or xs k d))

  -- the next item passes, and comes before the one that was found
  pub found_now : ((x : X) → Before x x → ⊥) → ((x y z : X) → Before x y → Before y z → Before x z)
      → (n : ℕ) (first : Option ℕ) → FoundWithin n first → n < length xs → ((d : X) → passes (get_or xs n d))
      → IfSome first (λ f. (d : X) → Before (get_or xs n d) (get_or xs f d)) → FoundWithin (n + 1) (Some n)
  found_now never chain n None was within passed before = record {
    within = within;
    found = passed;
    ahead = λ k d p h. elim (which k n) [
      | inl e ↦ absurd (never (get_or xs n d) (subst (λ m. Before (get_or xs m d) (get_or xs n d)) e h))
      | inr u ↦ was.none k d (omega arith)
    ];
    none = tt;
  }
  found_now never chain n (Some f) was within passed before = record {
    within = within;
    found = passed;
    ahead = λ k d p h. elim (which k n) [
      | inl e ↦ absurd (never (get_or xs n d) (subst (λ m. Before (get_or xs m d) (get_or xs n d)) e h))
      | inr u ↦ was.ahead k d (omega arith) (chain _ _ _ h (before d))
    ];
    none = tt;
  }

  -- the next item fails
  pub failed_now : (n : ℕ) (first : Option ℕ) → FoundWithin n first → ((d : X) → fails (get_or xs n d)) → FoundWithin (n + 1) first
  failed_now n first was failed = grind (arith, which)

  -- the next item does not come before the one that was found
  pub passed_by : (n : ℕ) (first : Option ℕ) → FoundWithin n first → (before : Bool) → before ≡ false → IfNone first (before ≡ true)
      → IfSome first (λ f. (d : X) → Before (get_or xs n d) (get_or xs f d) → before ≡ true) → FoundWithin (n + 1) first
  passed_by n None was before is none ahead = absurd (true≢false (sym none ∙ is))
  passed_by n (Some f) was before is none ahead = record {
    within = was.within;
    found = was.found;
    ahead = λ k d p h. elim (which k n) [
      | inl e ↦ absurd (true≢false (sym (ahead d (subst (λ m. Before (get_or xs m d) (get_or xs f d)) e h)) ∙ is))
      | inr u ↦ was.ahead k d (omega arith) h
    ];
    none = tt;
  }

  -- the whole list is done
  pub of_all : (n : ℕ) (first : Option ℕ) → FoundWithin n first → length xs ≤ n → FoundWithin (length xs) first
  of_all n first was long = grind arith
