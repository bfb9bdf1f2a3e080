-- Runs of few steps.
use Rattle.std.proofs.Common.{◌≡◌, ℕ, List, [], ◌∷◌, map, Some, Ok, Err, Result, refl}
use Rattle.priority_channel_core.specs.declared.calls.Call.TheVariants as call
use Rattle.priority_channel_core.specs.declared.calls.Answer.TheVariants as answer
use Rattle.priority_channel_core.specs.Prelude.{State, Handed, nobody, Step, Calls, Answers, Ordering, TakesInTurn, in_turn, takes}
use Rattle.priority_channel_calls.specs.Told.Told.{Nothing, Exactly, After, Takes, Leases, TakesAll, Changes}
use Rattle.priority_channel_calls.specs.Told.{step_of, Makes}

module _ {T P W : Type 0} (cmp : P → P → Ordering) (is_clone : W → W → Type 0)
    (old new : State T P W) (handed : Handed W) where
  pub makes_nothing : new ≡ old → handed ≡ nobody → Makes cmp is_clone old Nothing handed new
  makes_nothing same none = record { run = []; means = (refl, none); leads = same }

  pub makes_one : (made : Calls T P W) (reply : Answers T P)
      → Step cmp is_clone old made reply handed new
      → Makes cmp is_clone old (Exactly made reply) handed new
  makes_one made reply step = record {
    run = step_of made reply handed ∷ [];
    means = refl;
    leads = (new, step, refl);
  }

  pub makes_after : (mid : State T P W) (look made : Calls T P W) (seen reply : Answers T P)
      → Step cmp is_clone old look seen nobody mid → Step cmp is_clone mid made reply handed new
      → Makes cmp is_clone old (After look seen made reply) handed new
  makes_after mid look made seen reply one other = record {
    run = step_of look seen nobody ∷ step_of made reply handed ∷ [];
    means = refl;
    leads = (mid, one, (new, other, refl));
  }

  pub makes_taking : (pair : T × P)
      → (place : ℕ) × Step cmp is_clone old (call.TakeWhere place) (answer.TakeWhere (Some pair))
      handed new
      → Makes cmp is_clone old (Takes pair) handed new
  makes_taking pair (place, step) = record {
    run = step_of (call.TakeWhere place) (answer.TakeWhere (Some pair)) handed ∷ [];
    means = (place, refl);
    leads = (new, step, refl);
  }

  pub makes_lease : (pair : T × P)
      → (place : ℕ) × Step cmp is_clone old (call.LeaseWhere place)
      (answer.LeaseWhere (Ok (Some pair))) handed new
      → Makes cmp is_clone old (Leases pair) handed new
  makes_lease pair (place, step) = record {
    run = step_of (call.LeaseWhere place) (answer.LeaseWhere (Ok (Some pair))) handed ∷ [];
    means = (place, refl);
    leads = (new, step, refl);
  }

  pub makes_change : (priority : P) (changed : Result P P)
      → (place : ℕ) × Step cmp is_clone old (call.ChangePriority place priority)
      (answer.ChangePriority changed) handed new
      → Makes cmp is_clone old (Changes priority changed) handed new
  makes_change priority changed (place, step) = record {
    run = step_of (call.ChangePriority place priority) (answer.ChangePriority changed) handed ∷ [];
    means = (place, refl);
    leads = (new, step, refl);
  }

  pub makes_takings : (pairs : List (T × P)) → TakesInTurn cmp is_clone old pairs handed new
      → Makes cmp is_clone old (TakesAll pairs) handed new
  makes_takings pairs (taken, same, turn) = record {
    run = in_turn takes taken handed;
    means = (taken, same, refl, turn.nobody_for_none);
    leads = turn.run;
  }

  -- and the step of a call that was made once
  pub the_step : (made : Calls T P W) (reply : Answers T P)
      → Makes cmp is_clone old (Exactly made reply) handed new
      → Step cmp is_clone old made reply handed new
  the_step made reply makes =
      let led = rw makes.means at makes.leads in
      rw (← led.2) at led.1
