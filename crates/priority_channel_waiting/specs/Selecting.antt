-- Who waits beside the core, for a message that meets a condition or for the close, and what they
-- have seen.
use Rattle.std.specs.Prelude.{◌≡◌, ℕ, ◌<◌, ◌&&◌, if◌then◌else◌, List, length, ◌++◌, Option, Some, None}
use Rattle.priority_channel_core.specs.Prelude.{CountedState, is_done, listing, without, without_given}
use Rattle.priority_channel_waiting.specs.declared.selecting.Listed.{Listed}
use Rattle.priority_channel_waiting.specs.declared.selecting.Listed.TheVariants.{Under, Over, Refused}
use Rattle.priority_channel_waiting.specs.declared.selecting.Sight.{Sight}
use Rattle.priority_channel_waiting.specs.declared.selecting.Sight.TheVariants.{First, All, Close}
use Rattle.priority_channel_waiting.specs.declared.selecting.Seen.{Seen}

-- each waiter under its ticket, and the number that is given next; `seen` is what all have seen of
-- that at which they look
pub record Watched : Type 0 where
  pub waiters : List (ℕ × ℕ)
  pub next_ticket : ℕ
  pub seen : Option Seen

pub record Selection : Type 0 where
  pub first : Watched
  pub all : Watched
  pub close : Watched

-- those that look at this
abbrev pub looking_at : Sight → Selection → Watched
looking_at First selection = selection.first
looking_at All selection = selection.all
looking_at Close selection = selection.close

abbrev pub with_looking_at : Sight → Watched → Selection → Selection
with_looking_at First watched selection = record selection { first = watched }
with_looking_at All watched selection = record selection { all = watched }
with_looking_at Close watched selection = record selection { close = watched }

-- without the waiter that has this ticket
abbrev pub left_by : ℕ → Watched → Watched
left_by ticket watched = record watched { waiters = without ticket watched.waiters }

-- who is taken off each list, to be woken
pub record Woken : Type 0 where
  pub first : List (ℕ × ℕ)
  pub all : List (ℕ × ℕ)
  pub close : List (ℕ × ℕ)

-- Each who was listed is among those that are taken off, if any are, or stays.
abbrev pub TakesOff : Selection → Option Woken → Selection → Type 0
TakesOff old None new = new ≡ old
TakesOff old (Some woken) new = (woken.first ++ new.first.waiters ≡ old.first.waiters)
    × (woken.all ++ new.all.waiters ≡ old.all.waiters)
    × (woken.close ++ new.close.waiters ≡ old.close.waiters)

module _ {T P W : Type 0} where
  -- what a look at messages sees: this number, and whether a priority was changed; None if no
  -- message can come any more
  abbrev pub messages_seen : Option ℕ → CountedState T P W → Option Seen
  messages_seen number core = if core.state.is_closed && is_done core.state then None
      else Some (record { number = number; changes = core.changes })

  -- whether another message is first, whether another one was accepted, or only that the channel is
  -- open; None if the wait is over
  abbrev pub seen_of : Sight → CountedState T P W → Option Seen
  seen_of First core = messages_seen core.first core
  seen_of All core = messages_seen (Some core.state.accepted) core
  seen_of Close core =
      if core.state.is_closed then None else Some (record { number = None; changes = 0 })

  -- nobody waits who has not seen what is there
  abbrev pub HaveSeen : Sight → Watched → CountedState T P W → Type 0
  HaveSeen sight watched core = 0 < length watched.waiters
      → (seen : Seen) × (watched.seen ≡ Some seen) × (seen_of sight core ≡ Some seen)

  abbrev pub AllHaveSeen : Selection → CountedState T P W → Type 0
  AllHaveSeen selection core = HaveSeen First selection.first core
      × HaveSeen All selection.all core × HaveSeen Close selection.close core

  -- What comes of listing a waiter that has just looked, and may have a ticket. It is listed, or
  -- its listing is refused and its ticket is not in the list. If the wait is over, nothing changes.
  abbrev pub Enrols : Sight → CountedState T P W → Option ℕ → ℕ → Listed → Watched → Watched
      → Type 0
  Enrols sight core given waiter (Under ticket) old new =
      listing given waiter old.waiters old.next_ticket
      ≡ record { ticket = ticket; waiters = new.waiters; next_ticket = new.next_ticket }
  Enrols sight core given waiter Over old new = (seen_of sight core ≡ None) × (new ≡ old)
  Enrols sight core given waiter Refused old new =
      new ≡ record old { waiters = without_given given old.waiters; seen = new.seen }
