-- The waiters on both sides of a channel.
use Rattle.std.specs.Prelude.{◌≡◌, true, false, ℕ, ◌+◌, ◌<◌, List, [], length, Option, Some, None, All}
use Rattle.priority_channel_core.specs.bag.Prelude.{digits}
use Rattle.priority_channel_core.specs.Types.{Side, Room, Message}
use Rattle.priority_channel_core.specs.Waiting.{Listing, IsRising, is_listed, without_given, listing}

pub record Waiters (W : Type 0) : Type 0 where
  -- the waiting senders (`room`) and receivers (`message`): each waker under its ticket
  pub room : List (ℕ × W)
  pub message : List (ℕ × W)
  pub next_ticket : ℕ

module _ {W : Type 0} where
  abbrev pub no_waiters : Waiters W
  no_waiters = record { room = []; message = []; next_ticket = 0 }

  abbrev pub on_side : Side → Waiters W → List (ℕ × W)
  on_side Room waiters = waiters.room
  on_side Message waiters = waiters.message

  -- the given ticket in neither list
  abbrev pub unlist : Option ℕ → Waiters W → Waiters W
  unlist given waiters = record waiters {
    room = without_given given waiters.room;
    message = without_given given waiters.message;
  }

  -- after a listing on this side
  abbrev pub enlist : Side → Listing W → Waiters W → Waiters W
  enlist Room listed waiters =
      record waiters { room = listed.waiters; next_ticket = listed.next_ticket }
  enlist Message listed waiters =
      record waiters { message = listed.waiters; next_ticket = listed.next_ticket }

  -- listed under this ticket, or without a ticket in neither list
  abbrev pub Enlists : (W → W → Type 0) → Side → Option ℕ → W → Option ℕ
      → Waiters W → Waiters W → Type 0
  Enlists is_clone side given waker None old new = new ≡ unlist given old
  Enlists is_clone side given waker (Some ticket) old new =
      (kept : W) × is_clone waker kept
      × (let listed = listing given kept (on_side side old) old.next_ticket in
      (ticket ≡ listed.ticket) × (new ≡ enlist side listed old))

  pub record HasOwnTickets (waiters : Waiters W) : Type 0 where
    pub room_rises : IsRising waiters.room
    pub message_rises : IsRising waiters.message
    pub room_given : All (λ a. a.0 < waiters.next_ticket) waiters.room
    pub message_given : All (λ a. a.0 < waiters.next_ticket) waiters.message
    pub apart : (ticket : ℕ) → is_listed ticket waiters.room ≡ true
        → is_listed ticket waiters.message ≡ false

  -- tickets that searches in both lists compare at most
  abbrev pub search_bound : Waiters W → ℕ
  search_bound waiters = digits (length waiters.room) + digits (length waiters.message)
