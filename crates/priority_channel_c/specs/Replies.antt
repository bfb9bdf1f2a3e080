-- What a reply tells, and what a call does to the channel behind a handle.
use Rattle.std.specs.Prelude.{◌≡◌, ℕ, Bool, true, false, ◌||◌, if◌then◌else◌, List, [], ◌∷◌, Option, Some, None, IfSome}
use Rattle.priority_channel_core.specs.Prelude.{Step, Calls, Answers, Handed, nobody}
use Rattle.priority_channel_c.specs.declared.priority.Priority.{Priority}
use Rattle.priority_channel_c.specs.declared.reply.Reply.{Reply}
use Rattle.priority_channel_c.specs.declared.reply.Waiter.{Waiter}
use Rattle.priority_channel_c.specs.declared.codes.Code.TheVariants.{Due}
use Rattle.priority_channel_c.specs.declared.state.Core.{Core}
use Rattle.priority_channel_c.specs.Priority.{priority_cmp}
use Rattle.priority_channel_c.specs.Codes.{number, code_of, pair_of, ticket_of}

pub record Tells (answer : Answers ℕ Priority) (told : Reply) : Type 0 where
  pub code : told.code ≡ number (code_of answer)
  pub pair : IfSome (pair_of answer) (λ pair.
      (told.message ≡ pair.0) × (told.priority ≡ pair.1))
  pub ticket : IfSome (ticket_of answer) (λ ticket. told.ticket ≡ ticket)

-- the ticket of the poll before, if there was one
abbrev pub ticket_given : Waiter → Option ℕ
ticket_given waiter = if waiter.has_ticket then Some waiter.ticket else None

abbrev pub has_some : List (ℕ × ℕ) → Bool
has_some [] = false
has_some (waiter ∷ others) = true

abbrev pub has_waiters : Handed ℕ → Bool
has_waiters handed = has_some handed.room || has_some handed.message

-- a clone of a waker is the same number
abbrev pub same_waker : ℕ → ℕ → Type 0
same_waker waker kept = kept ≡ waker

abbrev pub Steps : Core → Calls ℕ Priority ℕ → Answers ℕ Priority → Handed ℕ → Core → Type 0
Steps old made answer handed new =
    Step priority_cmp same_waker old.channel.state made answer handed new.channel.state

-- One step of the machine. The waiters that it woke are then due, in no place but `due`. While some
-- are due from before, it is not made.
pub record Makes (made : Calls ℕ Priority ℕ) (told : Reply) (old new : Core) : Type 0 where
  pub step : has_waiters old.due ≡ false
      → (answer : Answers ℕ Priority) × Steps old made answer new.due new × Tells answer told
  pub put_off : has_waiters old.due ≡ true → (new ≡ old) × (told.code ≡ number Due)
  pub due : told.has_due ≡ has_waiters new.due

-- one step that wakes nobody: who was due stays due
pub record MakesQuietly (made : Calls ℕ Priority ℕ) (told : Reply) (old new : Core) : Type 0 where
  pub answer : Answers ℕ Priority
  pub step : Steps old made answer nobody new
  pub tells : Tells answer told
  pub kept : new.due ≡ old.due
  pub due : told.has_due ≡ has_waiters new.due

-- one step that changes nothing
abbrev pub Looks : Calls ℕ Priority ℕ → Answers ℕ Priority → Core → Core → Type 0
Looks made answer old new = (new ≡ old) × Steps old made answer nobody new

-- of the channels behind the handles
abbrev pub Between : (Core → Core → Type 0) → Option Core → Option Core → Type 0
Between does (Some old) (Some new) = does old new
Between does (Some old) None = ⊥
Between does None new = ⊥
