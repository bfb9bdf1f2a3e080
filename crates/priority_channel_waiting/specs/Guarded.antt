-- What the channel's lock guards, and who is woken after a call.
use Rattle.std.specs.Prelude.{◌≡◌, ℕ, ⊤, Option, Some, None, IsSomeAnd}
use Rattle.priority_channel_core.specs.Prelude.{CountedState, Handed}
use Rattle.priority_channel_waiting.specs.Selecting.{Selection, Woken, AllHaveSeen, TakesOff}

pub record Content (T P : Type 0) : Type 0 where
  pub core : CountedState T P ℕ
  pub selecting : Option Selection

-- nobody waits beside the core who has not seen what is there
abbrev pub HaveSeenAll : {T P : Type 0} → Option Selection → CountedState T P ℕ → Type 0
HaveSeenAll None core = ⊤
HaveSeenAll (Some selection) core = AllHaveSeen selection core

-- who was taken off the core's lists, and off those beside it
pub record AllWoken : Type 0 where
  pub handed : Handed ℕ
  pub others : Option Woken

-- Each who waited beside the core is among those that are taken off, if any are, or stays.
abbrev pub TakesOffBeside : Option Selection → Option Woken → Option Selection → Type 0
TakesOffBeside None woken new = (woken ≡ None) × (new ≡ None)
TakesOffBeside (Some old) woken new = IsSomeAnd new (TakesOff old woken)
