-- A channel with its futures, and what may happen to them.
use Rattle.std.specs.Prelude.{◌≡◌, ℕ, ◌||◌, Bool, if◌then◌else◌, List, [], ◌∷◌, map, slice_get, slice_set, Some, All}
use Rattle.priority_channel_core.specs.Prelude.{State, Handed, nobody, opening, is_listed, IsGood, Step, Calls, Answers, Ordering}
use Rattle.priority_channel_core.specs.laws.Direct.{IsDirect}
use Rattle.priority_channel_waiting.specs.Future.{Tasks, Standing, Futures, ticket_of, poll_of, future_after, GivesUpTicket}
use Rattle.priority_channel_waiting.specs.Future.Standing.{New, Waiting, Called, Done}

pub record World (T P W : Type 0) : Type 0 where
  pub state : State T P W
  pub futures : List (Futures T P W)

-- A direct call; or the future at this place is polled, or ends.
pub data Event (T P W : Type 0) : Type 0 where
  Makes : Calls T P W → Event T P W
  Polls : ℕ → W → Event T P W
  GivesUp : ℕ → Event T P W

module _ {W : Type 0} where
  -- its ticket is in the woken lists
  abbrev pub is_handed : ℕ → Handed W → Bool
  is_handed ticket handed = is_listed ticket handed.room || is_listed ticket handed.message

  abbrev pub standing_after : Handed W → Standing W → Standing W
  standing_after handed (Waiting ticket waker) =
      if is_handed ticket handed then Called ticket waker else Waiting ticket waker
  standing_after handed standing = standing

module _ {T P W : Type 0} where
  abbrev pub call_out : Handed W → List (Futures T P W) → List (Futures T P W)
  call_out handed futures =
      map (λ future. record {
        task = future.task;
        standing = standing_after handed future.standing;
      }) futures

  abbrev pub IsOpening : World T P W → Type 0
  IsOpening world =
      IsGood world.state × (world.state ≡ opening world.state.capacity world.state.is_reserved)
      × All (λ future. future.standing ≡ New) world.futures

module _ {T P W : Type 0} (cmp : P → P → Ordering) (is_clone : W → W → Type 0) where
  module _ (old : World T P W) where
    -- a poll with the future's own ticket; others are woken before it gets its new standing
    abbrev pub PollsFuture : ℕ → W → Tasks T P → Standing W → Handed W → World T P W → Type 0
    PollsFuture which waker task Done handed new = (handed ≡ nobody) × (new ≡ old)
    PollsFuture which waker task standing handed new =
        (reply : Answers T P)
        × Step cmp is_clone old.state (poll_of task (ticket_of standing) waker) reply handed
        new.state
        × (new.futures
        ≡ slice_set (call_out handed old.futures) which (future_after task waker reply))

    abbrev pub Happens : Event T P W → Handed W → World T P W → Type 0
    Happens (Makes made) handed new =
        IsDirect made
        × (reply : Answers T P) × Step cmp is_clone old.state made reply handed new.state
        × (new.futures ≡ call_out handed old.futures)
    Happens (Polls which waker) handed new =
        (future : Futures T P W) × (slice_get old.futures which ≡ Some future)
        × PollsFuture which waker future.task future.standing handed new
    Happens (GivesUp which) handed new =
        (future : Futures T P W) × (slice_get old.futures which ≡ Some future) × (handed ≡ nobody)
        × GivesUpTicket cmp is_clone old.state (ticket_of future.standing) new.state
        × (new.futures ≡ slice_set old.futures which (record future { standing = Done }))

  abbrev pub Leads : World T P W → List (Event T P W) → World T P W → Type 0
  Leads old [] new = new ≡ old
  Leads old (event ∷ more) new =
      (handed : Handed W) × (mid : World T P W) × Happens old event handed mid × Leads mid more new
