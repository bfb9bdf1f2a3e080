-- The number of handles, along the calls of a run.
use Rattle.std.proofs.Common.{◌≡◌, ℕ, inl, inr, Bool, false, cond, List, [], ◌∷◌, arith}
use Rattle.std.specs.List.{list_any}
use Rattle.std.proofs.lemmas.List.Sums.{sum_by-cons}
use Rattle.priority_channel_core.specs.Prelude.{count_after, ChangesCount, DropsFindHandles, AllowsSide}

module _ {C : Type 0} (is_clone is_drop : C → Bool) where
  none_dropped : (count : ℕ) (calls : List C) → list_any is_drop calls ≡ false → DropsFindHandles is_clone is_drop count calls
  none_dropped count [] h = tt
  none_dropped count (call ∷ calls) h =
      let more = none_dropped (count_after is_clone is_drop count call) calls in grind arith

  pub AllowsSide-more : (count more : ℕ) (call : C) (calls : List C) → AllowsSide is_clone is_drop count (call ∷ calls) → ChangesCount is_clone is_drop count call more → AllowsSide is_clone is_drop more calls
  AllowsSide-more count more call calls h (inl e) =
      let rest = sum_by-cons (λ (x : C). cond (is_clone x) 1 0) call calls in grind arith
  AllowsSide-more count more call calls h (inr e) =
      let none : list_any is_drop calls ≡ false = grind arith in
      record { drops = none_dropped more calls none; clones = λ h. cc }
