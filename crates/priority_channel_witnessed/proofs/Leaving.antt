-- Passes that come and go: which numbers are out, and what was counted for those that left.
use Rattle.std.proofs.Common.{◌≡◌, ◌≢◌, ◌+◌, ◌<◌, ◌≤◌, ◌==◌, ℕ, cond, List, [], ◌∷◌, ◌++◌, length, map, refl, sym, arith, length-append, All, subst, slice_index_or, sum_by, remove, IsPermutation}
use Rattle.std.proofs.lemmas.List.Sums.{sum_by-append, sum_by-cons, sum_by_push}
use Rattle.std.proofs.lemmas.List.Sorted.{sum_by_popped, sum_by-IsPermutation, IsPermutation-remove}
use Rattle.std.proofs.lemmas.List.Elements.{All-nil, All-cons}
use Rattle.std.proofs.lemmas.Bool.Decides.{nat_tests}
use Rattle.priority_channel_recorded.proofs.Accounts.{sums_same, same_sums, split_calls, hit}
use Rattle.priority_channel_witnessed.specs.declared.chronicle.Entry.{Entry}
use Rattle.priority_channel_witnessed.specs.History.{who_of}
use Rattle.priority_channel_witnessed.specs.Passes.{Carried, calls_of, calls_made, is_of_others, calls_of_others, calls_under, times_in, AreApart, AreGiven, IsShared}

-- whether it is this number
abbrev same_as : ℕ → ℕ → ℕ
same_as number other = cond (number == other) 1 0

pub given_none : AreGiven [] 0
given_none = record { once = λ number. omega arith; below = λ number past. refl }

-- the next number is another than all that were given
pub given_more : (numbers : List ℕ) (next : ℕ) → AreGiven numbers next → AreGiven (numbers ++ next ∷ []) (next + 1)
given_more numbers next given = record {
  once = λ number. grind (arith, nat_tests, sum_by_push (same_as number) numbers next, given.once number, given.below number);
  below = λ number past. grind (arith, nat_tests, sum_by_push (same_as number) numbers next, given.below number);
}

pub given_less : (numbers left : List ℕ) (number next : ℕ) → IsPermutation numbers (number ∷ left) → AreGiven numbers next → AreGiven left next
given_less numbers left number next struck given = record {
  once = λ other. omega (arith, given.once other, sum_by_popped (same_as other) number numbers left struck);
  below = λ other past. omega (arith, given.below other past, sum_by_popped (same_as other) number numbers left struck);
}

pub struck_at : (numbers after : List ℕ) (at number : ℕ) → at < length numbers → number ≡ slice_index_or numbers at number
    → after ≡ remove numbers at → IsPermutation numbers (number ∷ after)
struck_at numbers after at number within is gone =
    subst (λ l. IsPermutation numbers (number ∷ l)) (sym gone) (IsPermutation-remove numbers at number within is)

module _ {A B : Type 0} (f : B → ℕ) (g : A → B) where
  sum_by_map : (xs : List A) → sum_by f (map g xs) ≡ sum_by (λ x. f (g x)) xs
  sum_by_map [] = refl
  sum_by_map (x ∷ xs) = omega (arith, sum_by-cons f (g x) (map g xs), sum_by-cons (λ y. f (g y)) x xs, sum_by_map xs)

module _ (T P W : Type 0) where
  under_none : (numbers : List ℕ) → calls_under {T = T} {P = P} {W = W} numbers [] ≡ 0
  under_none [] = refl
  under_none (number ∷ more) =
      let none : calls_of {T = T} {P = P} {W = W} number [] ≡ 0 = refl in
      omega (arith, none, sum_by-cons (λ other. calls_of {T = T} {P = P} {W = W} other []) number more, under_none more)

module _ {T P W : Type 0} where
  -- nobody has called yet
  pub shared_none : (out : List ℕ) (next : ℕ) → IsShared {T = T} {P = P} {W = W} out next 0 []
  shared_none out next = record { below = λ number past. refl; others = omega (arith, under_none T P W out) }

  under_push : (numbers : List ℕ) (history : List (Entry T P W)) (last : Entry T P W)
      → calls_under numbers (history ++ last ∷ []) ≡ calls_under numbers history + times_in last.who numbers
  under_push [] history last = refl
  under_push (number ∷ more) history last =
      omega (
        arith,
        sum_by-cons (λ other. calls_of other (history ++ last ∷ [])) number more,
        sum_by-cons (λ other. calls_of other history) number more,
        sum_by-cons (same_as last.who) number more,
        sum_by_push (hit who_of number) history last,
        under_push more history last,
      )

  -- a call under a number that was given
  pub shared_more : (out : List ℕ) (next left : ℕ) (history : List (Entry T P W)) (last : Entry T P W) → AreGiven out next
      → IsShared out next left history → last.who < next → IsShared out next left (history ++ last ∷ [])
  shared_more out next left history last given shared is = record {
    below = λ number past. grind (arith, nat_tests, sum_by_push (hit who_of number) history last, shared.below number);
    others = omega (arith, shared.others, under_push out history last, given.once last.who, length-append history (last ∷ []));
  }

  -- a pass that comes
  pub shared_come : (out : List ℕ) (next left : ℕ) (history : List (Entry T P W)) → IsShared out next left history
      → IsShared (out ++ next ∷ []) (next + 1) left history
  shared_come out next left history shared = record {
    below = λ number past. shared.below number (omega (arith, past));
    others = omega (arith, shared.others, sum_by_push (λ other. calls_of other history) out next, shared.below next (omega arith));
  }

  -- a pass that goes
  pub shared_go : (out rest : List ℕ) (next left number count : ℕ) (history : List (Entry T P W)) → IsShared out next left history
      → IsPermutation out (number ∷ rest) → count ≤ calls_of number history → IsShared rest next (left + count) history
  shared_go out rest next left number count history shared struck counted = record {
    below = shared.below;
    others = omega (arith, shared.others, sum_by_popped (λ other. calls_of other history) number out rest struck, counted);
  }

  -- what a sum over the numbers that were out has for these passes
  part_of : (f : ℕ → ℕ) (passes : List (Carried T P W)) (out rest : List ℕ) → IsPermutation out (map (λ pass. pass.number) passes ++ rest)
      → sum_by f out ≡ sum_by (λ pass. f pass.number) passes + sum_by f rest
  part_of f passes out rest struck =
      omega (arith, sum_by-IsPermutation f out (map (λ (pass : Carried T P W). pass.number) passes ++ rest) struck, sum_by-append f (map (λ (pass : Carried T P W). pass.number) passes) rest, sum_by_map f (λ (pass : Carried T P W). pass.number) passes)

  -- under the number of each pass that was out stand as many entries as its count
  pub exact : (passes : List (Carried T P W)) (out rest : List ℕ) (next left : ℕ) (history : List (Entry T P W))
      → IsPermutation out (map (λ pass. pass.number) passes ++ rest) → IsShared out next left history
      → All (λ pass. pass.count ≤ calls_of pass.number history) passes → length history ≡ left + calls_made passes
      → All (λ pass. calls_of pass.number history ≡ pass.count) passes
  exact passes out rest next left history struck shared counted long =
      same_sums (λ (pass : Carried T P W). pass.count) (λ (pass : Carried T P W). calls_of pass.number history) passes counted
      (omega (arith, long, shared.others, part_of (λ other. calls_of other history) passes out rest struck))

  none_of : (number : ℕ) (passes : List (Carried T P W)) → sum_by (λ pass. same_as number pass.number) passes ≡ 0 → All (λ pass. number ≢ pass.number) passes
  none_of number [] none = All-nil (λ (pass : Carried T P W). number ≢ pass.number)
  none_of number (pass ∷ more) none =
      let split = sum_by-cons (λ (q : Carried T P W). same_as number q.number) pass more in
      All-cons (λ (q : Carried T P W). number ≢ q.number) pass more (grind (arith, nat_tests)) (none_of number more (omega (arith, split, none)))

  once_apart : (passes : List (Carried T P W)) → ((number : ℕ) → sum_by (λ pass. same_as number pass.number) passes ≤ 1) → AreApart passes
  once_apart [] once = tt
  once_apart (pass ∷ others) once =
      let split : (number : ℕ) → sum_by (λ (q : Carried T P W). same_as number q.number) (pass ∷ others) ≡ same_as number pass.number + sum_by (λ (q : Carried T P W). same_as number q.number) others =
      λ number. sum_by-cons (λ (q : Carried T P W). same_as number q.number) pass others in
      (none_of pass.number others (grind (arith, nat_tests, split pass.number, once pass.number)), once_apart others (λ number. omega (arith, split number, once number)))

  -- no two of them have one number
  pub out_apart : (passes : List (Carried T P W)) (out rest : List ℕ) (next : ℕ) → IsPermutation out (map (λ pass. pass.number) passes ++ rest)
      → AreGiven out next → AreApart passes
  out_apart passes out rest next struck given =
      once_apart passes (λ number. omega (arith, part_of (same_as number) passes out rest struck, given.once number))

  -- the calls of these passes and those of others
  pub all_calls : (passes : List (Carried T P W)) (history : List (Entry T P W)) → AreApart passes
      → All (λ pass. calls_of pass.number history ≡ pass.count) passes → length history ≡ calls_made passes + calls_of_others passes history
  all_calls passes history apart exactly =
      omega (
        arith,
        split_calls who_of is_of_others (λ e. refl) (λ p ps e. refl) passes history apart,
        sums_same (λ (pass : Carried T P W). calls_of pass.number history) (λ (pass : Carried T P W). pass.count) passes exactly,
      )
