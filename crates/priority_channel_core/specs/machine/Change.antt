-- What a step does, and whom it wakes.
use Rattle.std.specs.Prelude.{◌≡◌, ℕ, ◌+◌, ◌-◌, ◌&&◌, ◌||◌, ◌==◌, not, Bool, if◌then◌else◌, true, false, List, [], ◌∷◌, ◌++◌, length, Some}
use Rattle.priority_channel_core.specs.Types.{Side, Room, Message}
use Rattle.priority_channel_core.specs.Waiters.{unlist}
use Rattle.priority_channel_core.specs.machine.State.{State, Handed, is_done, settled}

module _ (T P : Type 0) where
  pub data Change : Type 0 where
    Nothing : Change
    -- these are accepted last
    Adds : List (T × P) → Change
    -- a pair goes out; these are left
    GoesOut : List (T × P) → Change
    -- its place stays held
    Lends : List (T × P) → Change
    -- another pair comes in
    MakesWay : List (T × P) → T × P → Change
    Reprices : List (T × P) → Change
    Holds : Change
    -- in a held place
    Fills : T × P → Change
    Frees : Change
    Shuts : Change
    Marks : Change
    -- so many senders, or receivers
    Counts : Side → ℕ → Change
    Unlists : ℕ → Change

module _ {T P W : Type 0} (s : State T P W) where
  abbrev pub shuts : Change T P → Bool
  shuts Shuts = true
  shuts Marks = is_done s
  shuts (Counts side n) = n == 0
  shuts change = false

  abbrev pub wakes_senders : Change T P → Bool
  wakes_senders (GoesOut left) = true
  wakes_senders Frees = true
  wakes_senders change = shuts change

  abbrev pub wakes_receivers : Change T P → Bool
  wakes_receivers (Adds front) = not (length front == 0)
  wakes_receivers (MakesWay left pair) = true
  wakes_receivers (Fills pair) = true
  -- no pair can come any more
  wakes_receivers Frees =
      (s.is_closed || (s.ends_when_done && (length s.pending == 0))) && (s.held == 1)
  wakes_receivers change = shuts change

  -- before it shuts or wakes
  abbrev pub moved : Change T P → State T P W
  moved (Adds front) =
      record s { pending = s.pending ++ front; accepted = s.accepted + length front }
  moved (GoesOut left) = settled (record s { pending = left })
  moved (Lends left) = record s { pending = left; held = s.held + 1 }
  moved (MakesWay left pair) =
      record s { pending = left ++ pair ∷ []; accepted = s.accepted + 1 }
  moved (Reprices left) = record s { pending = left }
  moved Holds = record s { held = s.held + 1 }
  moved (Fills pair) = record s {
    pending = s.pending ++ pair ∷ [];
    accepted = s.accepted + 1;
    held = s.held - 1;
  }
  moved Frees = settled (record s { held = s.held - 1 })
  moved Marks = record s { ends_when_done = true }
  moved (Counts Room n) = record s { sender_count = n }
  moved (Counts Message n) = record s { receiver_count = n }
  moved (Unlists ticket) = record s { waiters = unlist (Some ticket) s.waiters }
  moved change = s

  abbrev pub after : Change T P → State T P W
  after change =
      let new = moved change in
      record new {
        is_closed = shuts change || new.is_closed;
        waiters = record new.waiters {
          room = if wakes_senders change then [] else new.waiters.room;
          message = if wakes_receivers change then [] else new.waiters.message;
        };
      }

  abbrev pub woken : Change T P → Handed W
  woken change = record {
    room = if wakes_senders change then s.waiters.room else [];
    message = if wakes_receivers change then s.waiters.message else [];
  }

  abbrev pub Does : Handed W → State T P W → Change T P → Type 0
  Does handed new change = (handed ≡ woken change) × (new ≡ after change)
