-- Lists of waiters: rising tickets, each with its waker.
use Rattle.std.specs.Prelude.{◌≡◌, false, ℕ, ◌+◌, ◌<◌, Bool, not, ◌==◌, if◌then◌else◌, List, [], ◌∷◌, ◌++◌, map, Option, Some, None}
use Rattle.std.specs.List.{AllPairs, filter, list_any}

-- what a listing leads to
pub record Listing (W : Type 0) : Type 0 where
  pub ticket : ℕ
  pub waiters : List (ℕ × W)
  pub next_ticket : ℕ

module _ {W : Type 0} where
  abbrev pub IsRising : List (ℕ × W) → Type 0
  IsRising waiters = AllPairs (λ a b. a.0 < b.0) waiters

  abbrev pub is_listed : ℕ → List (ℕ × W) → Bool
  is_listed ticket waiters = list_any (λ a. a.0 == ticket) waiters

  abbrev pub is_given_listed : Option ℕ → List (ℕ × W) → Bool
  is_given_listed None waiters = false
  is_given_listed (Some ticket) waiters = is_listed ticket waiters

  abbrev pub without : ℕ → List (ℕ × W) → List (ℕ × W)
  without ticket waiters = filter (λ a. not (a.0 == ticket)) waiters

  abbrev pub without_given : Option ℕ → List (ℕ × W) → List (ℕ × W)
  without_given None waiters = waiters
  without_given (Some ticket) waiters = without ticket waiters

  -- this waker in place of the one under the ticket
  abbrev pub with_waker : ℕ → W → List (ℕ × W) → List (ℕ × W)
  with_waker ticket waker waiters = map (λ a. if a.0 == ticket then (ticket, waker) else a) waiters

  abbrev pub fresh : W → List (ℕ × W) → ℕ → Listing W
  fresh waker waiters next =
      record { ticket = next; waiters = waiters ++ (next, waker) ∷ []; next_ticket = next + 1 }

  -- a waiter keeps a listed ticket, and otherwise gets the next one
  abbrev pub listing : Option ℕ → W → List (ℕ × W) → ℕ → Listing W
  listing None waker waiters next = fresh waker waiters next
  listing (Some ticket) waker waiters next =
      if is_listed ticket waiters
      then record { ticket = ticket; waiters = with_waker ticket waker waiters; next_ticket = next }
      else fresh waker waiters next

  -- with a clone of the waker
  abbrev pub IsListing : (W → W → Type 0) → Option ℕ → W → List (ℕ × W) → ℕ → Listing W → Type 0
  IsListing is_clone given waker waiters next listed =
      (kept : W) × is_clone waker kept × (listing given kept waiters next ≡ listed)
