-- Calls on a pending pair that is named by a key: by its message, or by its priority.
use Rattle.std.specs.Prelude.{◌≡◌, ◌≢◌, ℕ, true, false, List, All, IfSome, IfNone, IfOk, OnErr}
use Rattle.priority_channel_core.specs.Prelude.{Calls, Answers, nobody}
use Rattle.priority_channel_core.specs.bag.Prelude.{Changes, PassesFirst}
use Rattle.priority_channel_core.specs.declared.calls.Call.TheVariants.{TakeWhere, ChangePriority, LeaseWhere}
use Rattle.priority_channel_core.specs.declared.calls.Answer.TheVariants as answer
use Rattle.priority_channel_c.specs.declared.priority.Priority.{Priority}
use Rattle.priority_channel_c.specs.declared.reply.Reply.{Reply}
use Rattle.priority_channel_c.specs.declared.codes.Code.TheVariants.{Due}
use Rattle.priority_channel_c.specs.declared.state.Core.{Core}
use Rattle.priority_channel_c.specs.Codes.{number}
use Rattle.priority_channel_c.specs.Replies.{Steps, Tells, has_waiters}

abbrev pub Pairs : Type 0
Pairs = List (ℕ × Priority)

-- which pairs have the key, and which have not
pub record Key : Type 1 where
  pub Has : ℕ × Priority → Type 0
  pub Lacks : ℕ × Priority → Type 0

abbrev pub of_message : ℕ → Key
of_message message =
    record { Has = λ pair. pair.0 ≡ message; Lacks = λ pair. pair.0 ≢ message }

abbrev pub of_priority : Priority → Key
of_priority priority =
    record { Has = λ pair. pair.1 ≡ priority; Lacks = λ pair. pair.1 ≢ priority }

-- which call with which answer is meant, between these pending pairs
abbrev pub Meaning : Type 1
Meaning = Pairs → Calls ℕ Priority ℕ → Answers ℕ Priority → Pairs → Type 0

-- a pair with the key goes out, or there is none
abbrev pub Takes : Key → Meaning
Takes key old (TakeWhere place) (answer.TakeWhere taken) new =
    IfSome taken key.Has × IfNone taken (All key.Lacks old)
Takes key old made answer new = ⊥

-- the same of a lease
abbrev pub Leases : Key → Meaning
Leases key old (LeaseWhere place) (answer.LeaseWhere leased) new =
    IfOk leased (λ found. IfSome found key.Has × IfNone found (All key.Lacks old))
Leases key old made answer new = ⊥

-- the first pair with the key gets this priority, or there is none
abbrev pub ChangesTo : Key → Priority → Meaning
ChangesTo key priority old (ChangePriority place given) (answer.ChangePriority changed) new =
    (given ≡ priority) × OnErr changed (All key.Lacks old)
    × IfOk changed (λ was. (change : Changes old was priority new)
    × PassesFirst key.Has key.Lacks change)
ChangesTo key priority old made answer new = ⊥

-- A step that is meant. The waiters that it woke are then due. While some are due from before, it
-- is not made.
pub record MakesMeant (means : Meaning) (told : Reply) (old new : Core) : Type 0 where
  pub step : has_waiters old.due ≡ false
      → (made : Calls ℕ Priority ℕ) × (answer : Answers ℕ Priority)
      × Steps old made answer new.due new × Tells answer told
      × means old.channel.state.pending made answer new.channel.state.pending
  pub put_off : has_waiters old.due ≡ true → (new ≡ old) × (told.code ≡ number Due)
  pub due : told.has_due ≡ has_waiters new.due

-- a step that is meant and wakes nobody
pub record MakesMeantQuietly (means : Meaning) (told : Reply) (old new : Core) : Type 0 where
  pub made : Calls ℕ Priority ℕ
  pub answer : Answers ℕ Priority
  pub step : Steps old made answer nobody new
  pub tells : Tells answer told
  pub meant : means old.channel.state.pending made answer new.channel.state.pending
  pub kept : new.due ≡ old.due
  pub due : told.has_due ≡ has_waiters new.due
