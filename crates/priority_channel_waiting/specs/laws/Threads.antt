-- A channel with the threads that wait on one of its sides: how far each has come.
use Rattle.std.specs.Prelude.{◌≡◌, ℕ, ◌||◌, ◌==◌, Bool, List, [], map, slice_set, Option, None}
use Rattle.std.specs.List.{All, list_any}
use Rattle.priority_channel_core.specs.declared.side.Side.{Side}
use Rattle.priority_channel_core.specs.Prelude.{State, opening, IsGood}
use Rattle.priority_channel_waiting.specs.Lines.{Lined}

-- how far a thread has come; its number is its number in the queue
pub data Phase : Type 0 where
  -- outside the queue: it makes no call, or tries, or is about to join
  Outside : Phase
  -- it spins, as the head or outside the queue
  Spins : Option ℕ → Phase
  -- it has a `Queued`: it is awake, or it sleeps or is about to
  Asks : ℕ → Phase
  Waits : ℕ → Phase
  -- it has the `Lead`: it is awake, or it was listed and sleeps or is about to
  Leads : ℕ → Phase
  Sleeps : ℕ → Phase

-- a thread: its waiter, and whether a wake was made, or is on its way, since it last slept
pub record Thread : Type 0 where
  pub waiter : ℕ
  pub phase : Phase
  pub is_woken : Bool

-- a channel, the queue of one side, and the threads of that side
pub record ThreadWorld (T P : Type 0) : Type 0 where
  pub side : Side
  pub state : State T P ℕ
  pub line : Lined
  pub threads : List Thread

-- a thread comes to a new phase
abbrev pub turn : ℕ → Thread → Phase → List Thread → List Thread
turn which thread phase threads = slice_set threads which (record thread { phase = phase })

-- the threads with these waiters are woken
abbrev pub wake : List (ℕ × ℕ) → List Thread → List Thread
wake waiters threads =
    map (λ thread. record {
      waiter = thread.waiter;
      phase = thread.phase;
      is_woken = thread.is_woken || list_any (λ a. a.1 == thread.waiter) waiters;
    }) threads

-- a new channel with an empty queue, and all threads outside it
abbrev pub IsUnused : {T P : Type 0} → ThreadWorld T P → Type 0
IsUnused world =
    IsGood world.state × (world.state ≡ opening world.state.capacity world.state.is_reserved)
    × (world.line
    ≡ record { first = None; ticket = None; others = []; next_number = 0; spinning = 0 })
    × All (λ thread. thread.phase ≡ Outside) world.threads
