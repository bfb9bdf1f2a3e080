-- A bulk send is a step, whether or not its iterator has one list: that of what was accepted.
use Rattle.std.proofs.Common.{◌≡◌, ℕ, ◌+◌, ◌<◌, ◌≤◌, Bool, true, false, List, [], ◌∷◌, ◌++◌, length, refl, sym, ap, arith, ◌∙◌, zero, suc, Ok, Err, length-append, inl}
use Rattle.priority_channel_core.specs.declared.calls.Call.TheVariants as call
use Rattle.priority_channel_core.specs.declared.calls.Answer.TheVariants as answer
use Rattle.priority_channel_core.specs.declared.errors.TrySendError.TheVariants.{Full, Closed}
use Rattle.priority_channel_core.specs.Prelude.{State, Handed, nobody, room, IsGood, AddsFront, Ordering}
use Rattle.priority_channel_core.proofs.Sends.{none_added, within}
use Rattle.priority_channel_calls.specs.Told.Told.{SendsSome}
use Rattle.priority_channel_calls.specs.Told.{step_of, Makes}

module _ {T P W : Type 0} (cmp : P → P → Ordering) (is_clone : W → W → Type 0) (old new : State T P W) (handed : Handed W) (good : IsGood new) where
  refused_closed : (front : List (T × P)) → AddsFront old front handed new → new ≡ old → old.is_closed ≡ true
      → Makes cmp is_clone old SendsSome handed new
  refused_closed front adds same closed =
      let none = none_added old new handed front adds same in
      record {
        run = step_of (call.TrySendv []) (answer.TrySendv (Err (Closed []))) handed ∷ [];
        means = ([], Err (Closed []), refl);
        leads = (new, record { moves = (closed, refl, ((rw none at adds).0, same)); good = good }, refl);
      }

  refused_full : (front : List (T × P)) → AddsFront old front handed new → new ≡ old → old.is_closed ≡ false → room old ≡ 0
      → Makes cmp is_clone old SendsSome handed new
  refused_full front adds same opened none_left =
      let none = none_added old new handed front adds same in
      record {
        run = step_of (call.TrySendv []) (answer.TrySendv (Err (Full []))) handed ∷ [];
        means = ([], Err (Full []), refl);
        leads = (new, record { moves = ([], refl, sym none_left, inl none_left, (opened, rw none at adds)); good = good }, refl);
      }

  by_room : (front : List (T × P)) → AddsFront old front handed new → old.is_closed ≡ false → (n : ℕ) → room old ≡ n
      → (room old ≡ 0 → new ≡ old) → Makes cmp is_clone old SendsSome handed new
  by_room front adds opened zero is full = refused_full front adds (full is) opened is
  by_room front adds opened (suc n) is full = record {
    run = step_of (call.TrySendv front) (answer.TrySendv (Ok tt)) handed ∷ [];
    means = (front, Ok tt, refl);
    leads = (new, record { moves = (omega (arith, is), within old new handed front good adds, (opened, adds)); good = good }, refl);
  }

  by_closed : (front : List (T × P)) → AddsFront old front handed new → (b : Bool) → old.is_closed ≡ b
      → (old.is_closed ≡ true → new ≡ old) → (old.is_closed ≡ false → room old ≡ 0 → new ≡ old)
      → Makes cmp is_clone old SendsSome handed new
  by_closed front adds true is closed full = refused_closed front adds (closed is) is
  by_closed front adds false is closed full = by_room front adds is (room old) refl (full is)

  pub sends_some : (front : List (T × P)) → AddsFront old front handed new
      → (old.is_closed ≡ true → new ≡ old) → (old.is_closed ≡ false → room old ≡ 0 → new ≡ old)
      → Makes cmp is_clone old SendsSome handed new
  sends_some front adds closed full = by_closed front adds old.is_closed refl closed full
