-- What the loop of a bulk send does, for every list that the iterator has.
use Rattle.std.specs.Prelude.{◌≡◌, ℕ, ◌<◌, ◌≤◌, ◌⊎◌, false, List, [], ◌++◌, length, Option}
use Rattle.std.specs.declared.iter.Ahead.{Ahead}
use Rattle.priority_channel_core.specs.declared.channel.bulk.Stop.{Stop}
use Rattle.priority_channel_core.specs.declared.channel.bulk.Stop.TheVariants.{Ended, Filled, Memory}
use Rattle.priority_channel_core.specs.machine.State.{State, Handed, room}
use Rattle.priority_channel_core.specs.machine.Change.{Adds, Does}
use Rattle.priority_channel_core.specs.machine.Polls.{Ends}
use Rattle.priority_channel_core.specs.Types.{Room}
use Rattle.priority_channel_core.specs.bag.Prelude.{Contents}
use Rattle.priority_channel_core.specs.code.Lists.{HasList}

-- only these pairs were added; if there are any, all waiting receivers are woken
abbrev pub AddsFront : {T P W : Type 0} → State T P W → List (T × P) → Handed W → State T P W
    → Type 0
AddsFront old front handed new = Does old handed new (Adds front)

abbrev pub sent_before : Stop → ℕ
sent_before (Ended n) = n
sent_before (Filled n) = n
sent_before (Memory n) = n

module _ {S X : Type 0} (steps : S → Option X → S → Type 0) where
  -- the prefix `front` was taken from the list
  pub record Takes (old : Ahead S X) (front : List X) (new : Ahead S X) : Type 0 where
    pub at : (list : List X) → HasList steps old list
        → (rest : List X) × (list ≡ front ++ rest) × HasList steps new rest

  pub record HasMore (msgs : Ahead S X) : Type 0 where
    pub at : (list : List X) → HasList steps msgs list → 0 < length list

  pub record HasEnded (msgs : Ahead S X) : Type 0 where
    pub at : (list : List X) → HasList steps msgs list → list ≡ []

  -- why the loop stopped before `room` items, or that it sent them
  abbrev pub StopsFor : (ℕ → Type 0) → ℕ → Stop → Ahead S X → Type 0
  StopsFor is_refused room (Ended n) left = (n < room) × HasEnded left
  StopsFor is_refused room (Filled n) left = n ≡ room
  StopsFor is_refused room (Memory n) left = (n < room) × HasMore left × is_refused n

module _ {S T P : Type 0} (steps : S → Option (T × P) → S → Type 0) where
  -- `count` pairs were moved from the iterator
  pub record MovesFront (old : Contents T P) (msgs : Ahead S (T × P)) (count : ℕ)
      (new : Contents T P) (left : Ahead S (T × P)) : Type 0 where
    pub front : List (T × P)
    pub long : length front ≡ count
    pub takes : Takes steps msgs front left
    pub pending : new.pending ≡ old.pending ++ front

  pub record SendsFront {W : Type 0} (old : State T P W) (msgs : Ahead S (T × P)) (count : ℕ)
      (handed : Handed W) (new : State T P W) (left : Ahead S (T × P)) : Type 0 where
    pub front : List (T × P)
    pub long : length front ≡ count
    pub takes : Takes steps msgs front left
    pub adds : AddsFront old front handed new

-- a poll sent these pairs, if any into room of an open channel, and changed nothing else but its
-- listing
pub record PollsFront {T P W : Type 0} (is_clone : W → W → Type 0) (old : State T P W)
    (given : Option ℕ) (waker : W)
    (front : List (T × P)) (handed : Handed W) (new : State T P W) : Type 0 where
  pub ticket : Option ℕ
  pub mid : State T P W
  pub accepts : (front ≡ []) ⊎ ((old.is_closed ≡ false) × (length front ≤ room old))
  pub adds : AddsFront old front handed mid
  pub ends : Ends is_clone Room given waker ticket mid new
