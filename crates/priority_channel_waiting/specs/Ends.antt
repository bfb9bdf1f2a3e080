-- The end of a wait that has come.
use Rattle.std.specs.Prelude.{◌≡◌, ⊤, Result, Ok, Err}
use Rattle.priority_channel_waiting.specs.declared.until.End.{End}
use Rattle.priority_channel_waiting.specs.declared.until.End.TheVariants.{At, Never}
use Rattle.priority_channel_waiting.specs.declared.until.Late.{Late}
use Rattle.priority_channel_waiting.specs.declared.reading.Unreadable.{Unreadable}
use Rattle.priority_channel_waiting.specs.declared.timeouts.Ended.{Ended}
use Rattle.priority_channel_waiting.specs.declared.timeouts.Ended.TheVariants as ended

-- The evidence is of this very deadline, or the clock could not be read. A wait without a limit has
-- no evidence.
abbrev pub HasCome : End → Result Late Unreadable → Type 0
HasCome end (Ok late) = end ≡ At late.deadline
HasCome end (Err unreadable) = end ≡ Never → ⊥

-- a fact about the evidence with which a wait has ended, if its time was over
abbrev pub OnOver : {C O : Type 0} → Ended C O → (O → Type 0) → Type 0
OnOver (ended.Over call over) fact = fact over
OnOver (ended.Closed call) fact = ⊤
OnOver (ended.Memory call) fact = ⊤
