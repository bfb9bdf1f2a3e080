-- Under each pass's number the history has as many entries as the pass has made calls.
use Rattle.std.proofs.Common.{◌≡◌, ◌≢◌, ◌+◌, ◌<◌, ◌≤◌, ◌==◌, ℕ, suc, Bool, true, not, ◌&&◌, cond, List, [], ◌∷◌, ◌++◌, length, slice_get, Some, refl, sym, ap, ◌∙◌, arith, All, sum_by, count_by}
use Rattle.std.proofs.lemmas.List.Sums.{sum_by-append, sum_by-cons, sum_by_push}
use Rattle.std.proofs.lemmas.List.Elements.{All-nil, All-cons, All-head, All-tail, All-from_get_or}
use Rattle.std.proofs.lemmas.Option.{get_or_from_slice_get}
use Rattle.std.proofs.lemmas.Bool.Decides.{nat_tests}
use mathlib.Core.List.{IsPrefix}
use Rattle.priority_channel_recorded.specs.chronicle.Passes.{Carried, calls_of, calls_made, AreNew, AreApart, Accounts, IsTold}

-- sums of functions over one list
module _ {A : Type 0} (f g : A → ℕ) where
  pub sums_same : (xs : List A) → All (λ x. f x ≡ g x) xs → sum_by f xs ≡ sum_by g xs
  sums_same [] h = refl
  sums_same (x ∷ xs) h = grind (arith, sum_by-cons, All-head (λ y. f y ≡ g y) x xs h, sums_same xs (All-tail (λ y. f y ≡ g y) x xs h))

  sums_le : (xs : List A) → All (λ x. f x ≤ g x) xs → sum_by f xs ≤ sum_by g xs
  sums_le [] h = omega arith
  sums_le (x ∷ xs) h = grind (arith, sum_by-cons, All-head (λ y. f y ≤ g y) x xs h, sums_le xs (All-tail (λ y. f y ≤ g y) x xs h))

  pub same_sums : (xs : List A) → All (λ x. f x ≤ g x) xs → sum_by g xs ≤ sum_by f xs → All (λ x. g x ≡ f x) xs
  same_sums [] h le = All-nil (λ x. g x ≡ f x)
  same_sums (x ∷ xs) h le =
      let first : f x ≤ g x = All-head (λ y. f y ≤ g y) x xs h in
      let others = All-tail (λ y. f y ≤ g y) x xs h in
      let less = sums_le xs others in
      All-cons (λ y. g y ≡ f y) x xs (grind (arith, sum_by-cons)) (same_sums xs others (grind (arith, sum_by-cons)))

  sums_add : (h : A → ℕ) → ((x : A) → h x ≡ f x + g x) → (xs : List A) → sum_by h xs ≡ sum_by f xs + sum_by g xs
  sums_add h each [] = refl
  sums_add h each (x ∷ xs) = grind (arith, sum_by-cons, each x, sums_add h each xs)

-- `free` says whether an entry stands under the number of none of these passes
module _ {E : Type 0} (who : E → ℕ) (free : List (Carried E) → E → Bool) (none : (entry : E) → free [] entry ≡ true)
    (one : (pass : Carried E) (passes : List (Carried E)) (entry : E) → free (pass ∷ passes) entry ≡ (not (who entry == pass.number) && free passes entry)) where
  free_of : (entry : E) (number : ℕ) (passes : List (Carried E)) → who entry ≡ number → All (λ pass. number ≢ pass.number) passes
      → free passes entry ≡ true
  free_of entry number [] is apart = none entry
  free_of entry number (pass ∷ passes) is apart =
      let rest = free_of entry number passes is (All-tail (λ q. number ≢ q.number) pass passes apart) in
      grind (arith, nat_tests, one pass passes entry, rest, All-head (λ q. number ≢ q.number) pass passes apart)

  all_free : (history : List E) → count_by (free []) history ≡ length history
  all_free [] = refl
  all_free (entry ∷ more) =
      let one = ap (λ (b : Bool). cond {A = ℕ} b 1 0) (none entry) in
      omega (arith, one, sum_by-cons (λ (e : E). cond (free [] e) 1 0) entry more, all_free more)

  one_of : (pass : Carried E) (passes : List (Carried E)) (entry : E) → All (λ other. pass.number ≢ other.number) passes
      → cond (free passes entry) 1 0 ≡ cond (free (pass ∷ passes) entry) 1 0 + cond (who entry == pass.number) 1 0
  one_of pass passes entry apart = grind (arith, nat_tests, one pass passes entry, λ (is : who entry ≡ pass.number). free_of entry pass.number passes is apart)

  -- each entry stands under the number of one of the passes, or under another
  pub split_calls : (passes : List (Carried E)) (history : List E) → AreApart passes
      → length history ≡ sum_by (λ pass. calls_of who pass.number history) passes + count_by (free passes) history
  split_calls [] history apart = omega (arith, all_free history)
  split_calls (pass ∷ passes) history apart =
      omega (arith, sum_by-cons (λ q. calls_of who q.number history) pass passes, split_calls passes history apart.1, sums_add (λ (e : E). cond (free (pass ∷ passes) e) 1 0) (λ (e : E). cond (who e == pass.number) 1 0) (λ (e : E). cond (free passes e) 1 0) (λ e. one_of pass passes e apart.0) history)

module _ {E : Type 0} (who : E → ℕ) where
  abbrev pub hit : ℕ → E → ℕ
  hit number entry = cond (who entry == number) 1 0

  pub calls_seen : (number count : ℕ) (seen history : List E) → IsPrefix seen history → count ≤ calls_of who number seen
      → count ≤ calls_of who number history
  calls_seen number count seen history front counted =
      omega (arith, counted, sym (ap (calls_of who number) front.1) ∙ sum_by-append (hit number) seen front.0)

  pub told_more : (is_legal : List E → Type 0) (old new : Carried E) (kept : List E) (last : E) → IsPrefix old.seen kept
      → old.count ≤ calls_of who old.number old.seen → who last ≡ old.number → new.number ≡ old.number → new.count ≡ old.count + 1
      → new.seen ≡ kept ++ last ∷ [] → is_legal new.seen → IsTold who is_legal old last new
  told_more is_legal old new kept last front counted who_is number count is legal = record {
    between = front.0;
    seen = rw front.1 is;
    legal = legal;
    counted = rw (number, count, is) (grind (arith, nat_tests, sum_by_push (hit old.number) kept last, calls_seen old.number old.count old.seen kept front counted));
  }

  numbered_apart : (first : ℕ) (passes : List (Carried E))
      → ((i : ℕ) → i < length passes → (pass : Carried E) × (slice_get passes i ≡ Some pass) × (pass.number ≡ first + i)) → AreApart passes
  numbered_apart first [] numbered = tt
  numbered_apart first (pass ∷ others) numbered =
      let zeroth = numbered 0 (omega arith) in
      let own : pass ≡ zeroth.0 = cc in
      let different : All (λ other. pass.number ≢ other.number) others = All-from_get_or (λ other. pass.number ≢ other.number) others pass (λ i within.
      let at = numbered (suc i) (omega (arith, within)) in
      let is = get_or_from_slice_get others i at.0 pass at.1 in
      λ same. absurd (omega (arith, same, ap (λ (p : Carried E). p.number) is, at.2, ap (λ (p : Carried E). p.number) own, zeroth.2))) in
      (different, numbered_apart (first + 1) others (λ i within. let at = numbered (suc i) (omega (arith, within)) in (at.0, at.1, omega (arith, at.2))))

  pub new_apart : (passes : List (Carried E)) → AreNew passes → AreApart passes
  new_apart passes new = numbered_apart 0 passes (λ i within. (record { number = i; count = 0; seen = [] }, new i within, omega arith))

  abbrev is_free : List (Carried E) → E → Bool
  is_free [] entry = true
  is_free (pass ∷ passes) entry = not (who entry == pass.number) && is_free passes entry

  pub account : (passes : List (Carried E)) (history : List E) → All (λ pass. pass.count ≤ calls_of who pass.number history) passes
      → length history ≡ calls_made passes → AreApart passes → Accounts who passes history
  account passes history enough long apart =
      let calls : Carried E → ℕ = λ pass. calls_of who pass.number history in
      let all = split_calls who is_free (λ e. refl) (λ p ps e. refl) passes history apart in (
        same_sums (λ pass. pass.count) calls passes enough (omega (arith, all, long)),
        λ number other.
            let stranger : Carried E = record { number = number; count = 0; seen = [] } in
            let more = split_calls who is_free (λ e. refl) (λ p ps e. refl) (stranger ∷ passes) history (other, apart) in
            omega (arith, more, sum_by-cons calls stranger passes, long, sums_le (λ pass. pass.count) calls passes enough),
      )
