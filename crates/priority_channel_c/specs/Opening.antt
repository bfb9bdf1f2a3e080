-- The start and the end of a channel.
use Rattle.std.specs.Prelude.{◌≡◌, ℕ, true, false, Option, Some, None}
use Rattle.priority_channel_core.specs.Prelude.{State, nobody}
use Rattle.priority_channel_c.specs.declared.priority.Priority.{Priority}
use Rattle.priority_channel_c.specs.declared.codes.Code.TheVariants.{Done, Memory, Due, BadCapacity}
use Rattle.priority_channel_c.specs.declared.state.Core.{Core}
use Rattle.priority_channel_c.specs.Codes.{number}
use Rattle.priority_channel_c.specs.Replies.{has_waiters}

-- the channel starts in this state and nobody is due, or memory was refused
abbrev pub Opens : State ℕ Priority ℕ → ℕ → Option Core → Type 0
Opens start told (Some core) =
    (told ≡ number Done) × (core.channel.state ≡ start) × (core.due ≡ nobody)
Opens start told None = told ≡ number Memory

abbrev pub RefusesCapacity : ℕ → Option Core → Type 0
RefusesCapacity told left = (told ≡ number BadCapacity) × (left ≡ None)

-- the channel goes, unless waiters are due
abbrev pub Ends : Option Core → ℕ → Option Core → Type 0
Ends (Some old) told None = (told ≡ number Done) × (has_waiters old.due ≡ false)
Ends (Some old) told (Some new) =
    (told ≡ number Due) × (has_waiters old.due ≡ true) × (new ≡ old)
Ends None told new = ⊥
