-- What holds of each world that events reach from an opening one.
use Rattle.std.specs.Prelude.{◌≡◌, ◌≢◌, ℕ, ◌+◌, ◌<◌, true, List, [], ◌∷◌, ◌==◌, if◌then◌else◌, length, slice_get, Option, Some, None, ◌⊎◌}
use Rattle.priority_channel_core.specs.declared.side.Side.{Side}
use Rattle.priority_channel_core.specs.declared.side.Side.TheVariants.{Room, Message}
use Rattle.priority_channel_core.specs.Prelude.{on_side, State, Handed, IsOver, IsGood}
use Rattle.priority_channel_waiting.specs.Future.{Tasks, Futures, ticket_of}
use Rattle.priority_channel_waiting.specs.Future.Standing.{New, Waiting, Called, Done}
use Rattle.priority_channel_waiting.specs.Future.Task.{Recv}
use Rattle.priority_channel_waiting.specs.laws.World.{World}

abbrev pub waker_of : {W : Type 0} → ℕ → List (ℕ × W) → Option W
waker_of ticket [] = None
waker_of ticket (a ∷ waiters) = if a.0 == ticket then Some a.1 else waker_of ticket waiters

abbrev pub side_of : {T P : Type 0} → Tasks T P → Side
side_of Recv = Message
side_of send = Room

module _ {T P W : Type 0} where
  -- what the future would wait for is there, or never comes
  abbrev pub CanGoOn : State T P W → Side → Type 0
  CanGoOn s Room = (s.is_closed ≡ true) ⊎ (length s.pending + s.held ≢ s.capacity)
  CanGoOn s Message = IsOver s ⊎ (s.pending ≢ [])

  -- a ticket that was given by then was that future's then: no number is given twice
  abbrev pub GivenOnce : World T P W → World T P W → Type 0
  GivenOnce past now =
      (which : ℕ) (future : Futures T P W) (ticket : ℕ)
      → slice_get now.futures which ≡ Some future → ticket_of future.standing ≡ Some ticket
      → ticket < past.state.waiters.next_ticket
      → (earlier : Futures T P W) × (slice_get past.futures which ≡ Some earlier)
      × (ticket_of earlier.standing ≡ Some ticket)

module _ {T P W : Type 0} (is_clone : W → W → Type 0) where
  -- this future waits on this side; `kept` is a clone of its waker
  pub record HasWaiting (futures : List (Futures T P W)) (side : Side) (ticket : ℕ)
      (kept : W) : Type 0 where
    pub which : ℕ
    pub future : Futures T P W
    pub waker : W
    pub there : slice_get futures which ≡ Some future
    pub on_side : side_of future.task ≡ side
    pub waits : future.standing ≡ Waiting ticket waker
    pub clone : is_clone waker kept

  pub record NobodyIsForgotten (world : World T P W) : Type 0 where
    pub good : IsGood world.state
    -- the waiting lists have exactly the waiting futures, each with a clone of its waker
    pub waiting_is_listed : (which : ℕ) (future : Futures T P W) (ticket : ℕ) (waker : W)
        → slice_get world.futures which ≡ Some future → future.standing ≡ Waiting ticket waker
        → (kept : W) × is_clone waker kept
        × (waker_of ticket (on_side (side_of future.task) world.state.waiters) ≡ Some kept)
    pub listed_is_waiting : (side : Side) (ticket : ℕ) (kept : W)
        → waker_of ticket (on_side side world.state.waiters) ≡ Some kept
        → HasWaiting world.futures side ticket kept
    pub waiting_cannot_go_on : (which : ℕ) (future : Futures T P W) (ticket : ℕ) (waker : W)
        → slice_get world.futures which ≡ Some future → future.standing ≡ Waiting ticket waker
        → CanGoOn world.state (side_of future.task) → ⊥
    -- one that was polled, has not answered and can go on was woken since
    pub called_if_can_go_on : (which : ℕ) (future : Futures T P W)
        → slice_get world.futures which ≡ Some future → future.standing ≢ New
        → future.standing ≢ Done
        → CanGoOn world.state (side_of future.task)
        → (ticket : ℕ) × (waker : W) × (future.standing ≡ Called ticket waker)
    pub tickets_were_given : (which : ℕ) (future : Futures T P W) (ticket : ℕ)
        → slice_get world.futures which ≡ Some future → ticket_of future.standing ≡ Some ticket
        → ticket < world.state.waiters.next_ticket
    pub tickets_differ : (first second : ℕ) (one other : Futures T P W) (ticket : ℕ)
        → slice_get world.futures first ≡ Some one → slice_get world.futures second ≡ Some other
        → ticket_of one.standing ≡ Some ticket → ticket_of other.standing ≡ Some ticket
        → first ≡ second

  -- a future is woken by its own ticket, with a clone of its last waker
  abbrev pub CalledBy : World T P W → Handed W → World T P W → Type 0
  CalledBy old handed new =
      (which : ℕ) (future : Futures T P W) (ticket : ℕ) (waker : W)
      → slice_get new.futures which ≡ Some future → future.standing ≡ Called ticket waker
      → (earlier : Futures T P W) × (slice_get old.futures which ≡ Some earlier)
      × ((earlier.standing ≡ Called ticket waker)
      ⊎ ((earlier.standing ≡ Waiting ticket waker) × (kept : W) × is_clone waker kept
      × ((waker_of ticket handed.room ≡ Some kept) ⊎ (waker_of ticket handed.message ≡ Some kept))))
