-- A waiter that leaves changes nothing of what the others have seen.
use Rattle.std.proofs.Common.{◌==◌, ◌≤◌, ℕ, Bool, not, List, length, filter, arith, refl}
use Rattle.std.proofs.lemmas.List.Filters.{length-filter_both}
use Rattle.priority_channel_core.specs.Prelude.{CountedState}
use Rattle.priority_channel_waiting.specs.Selecting.{left_by, looking_at, with_looking_at, AllHaveSeen, HaveSeen, Selection, Watched}
use Rattle.priority_channel_waiting.specs.declared.selecting.Sight.{Sight}
use Rattle.priority_channel_waiting.specs.declared.selecting.Sight.TheVariants.{First, All, Close}

fewer : {X : Type 0} (p : X → Bool) (xs : List X) → length (filter p xs) ≤ length xs
fewer p xs = omega (arith, length-filter_both p (λ x. not (p x)) (λ x. refl) xs)

module _ {T P W : Type 0} (core : CountedState T P W) (ticket : ℕ) where
  seen_without : (sight : Sight) (watched : Watched) → HaveSeen sight watched core → HaveSeen sight (left_by ticket watched) core
  seen_without sight watched seen some =
      let less = fewer (λ (waiter : ℕ × ℕ). not (waiter.0 == ticket)) watched.waiters in
      seen (omega (arith, less, some))

  pub all_seen_without : (sight : Sight) (selection : Selection) → AllHaveSeen selection core
      → AllHaveSeen (with_looking_at sight (left_by ticket (looking_at sight selection)) selection) core
  all_seen_without First selection (first, all, close) = (seen_without First selection.first first, all, close)
  all_seen_without All selection (first, all, close) = (first, seen_without All selection.all all, close)
  all_seen_without Close selection (first, all, close) = (first, all, seen_without Close selection.close close)
