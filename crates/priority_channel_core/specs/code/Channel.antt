-- What callers see of a channel, and how its parts agree.
use Rattle.std.specs.Prelude.{◌≡◌, ℕ, ◌+◌, ◌*◌, ◌≤◌, Bool, true, false, if◌then◌else◌, Option, [], length}
use Rattle.priority_channel_core.specs.bag.Prelude.{digits, Contents}
use Rattle.priority_channel_core.specs.Types.{Side, Room, Message}
use Rattle.priority_channel_core.specs.machine.State.{State, room, IsGoingOn}
use Rattle.priority_channel_core.specs.machine.Good.{IsGood}
use Rattle.priority_channel_core.specs.Word.{Word}

pub record CountedState (T P W : Type 0) : Type 0 where
  pub state : State T P W
  pub priority_comparisons : ℕ
  pub ticket_comparisons : ℕ
  pub knows_least : Bool
  -- how many pairs were accepted before the one that a receive would give
  pub first : Option ℕ
  -- how often a priority was changed, modulo 2^64
  pub changes : ℕ

module _ {T P W : Type 0} where
  abbrev pub state_of : Contents T P → Word W → ℕ → Bool → ℕ → ℕ → State T P W
  state_of bag word capacity is_reserved sender_count receiver_count = record {
    pending = bag.pending;
    accepted = bag.accepted;
    held = word.held;
    is_closed = word.is_closed;
    ends_when_done = word.ends;
    capacity = capacity;
    is_reserved = is_reserved;
    sender_count = sender_count;
    receiver_count = receiver_count;
    waiters = word.waiters;
  }

  pub record IsSound (bag : Contents T P) (word : Word W) (state : State T P W)
      : Type 0 where
    pub counted : word.count ≡ length bag.pending
    pub slots_held : length bag.pending + word.held ≤ bag.slots
    pub slots_kept : state.is_reserved ≡ true → state.capacity ≤ bag.slots
    pub good : IsGood state

  -- this many comparisons at most; the least pair stays known
  abbrev pub ComparesAtMost : ℕ → ℕ → CountedState T P W → CountedState T P W → Type 0
  ComparesAtMost priorities tickets old new =
      (new.priority_comparisons ≤ old.priority_comparisons + priorities)
      × (new.ticket_comparisons ≤ old.ticket_comparisons + tickets)
      × (old.knows_least ≡ true → new.knows_least ≡ true)

  -- comparisons until the least pair is known, at most
  abbrev pub search_for_least : CountedState T P W → ℕ
  search_for_least channel =
      if channel.knows_least then 0
      else length channel.state.pending * digits (length channel.state.pending)

  -- a call on this side has to wait
  abbrev pub IsBlocked : Side → State T P W → Type 0
  IsBlocked Room s = (s.is_closed ≡ false) × (room s ≡ 0)
  IsBlocked Message s = IsGoingOn s × (s.pending ≡ [])
