-- A send of many pairs in one step.
use Rattle.std.specs.Prelude.{◌≡◌, ℕ, ◌+◌, true, false, List, [], ◌∷◌, map, Option, Some, None}
use Rattle.priority_channel_core.specs.Prelude.{SendReply}
use Rattle.priority_channel_core.specs.declared.calls.Call.TheVariants as call
use Rattle.priority_channel_core.specs.declared.calls.Answer.TheVariants as answer
use Rattle.priority_channel_c.specs.declared.bulk.Pair.{Pair}
use Rattle.priority_channel_c.specs.declared.priority.Priority.{Priority}
use Rattle.priority_channel_c.specs.declared.reply.Reply.{Reply}
use Rattle.priority_channel_c.specs.declared.codes.Code.TheVariants.{Due}
use Rattle.priority_channel_c.specs.declared.state.Core.{Core}
use Rattle.priority_channel_c.specs.Codes.{number}
use Rattle.priority_channel_c.specs.Replies.{Steps, Tells, has_waiters}

abbrev pub as_pair : Pair → ℕ × Priority
as_pair given = (given.message, given.priority)

-- the first pair goes, or there is none
abbrev pub GivesPair : List Pair → Option (ℕ × Priority) → List Pair → Type 0
GivesPair old (Some pair) new = (given : Pair) × (old ≡ given ∷ new) × (pair ≡ as_pair given)
GivesPair old None new = (old ≡ []) × (new ≡ old)

-- One step of the machine, by which so many pairs were accepted. While waiters are due from before,
-- it is not made.
pub record MakesMany (given : List Pair) (accepted : ℕ) (told : Reply) (old new : Core) : Type 0 where
  pub step : has_waiters old.due ≡ false
      → (reply : SendReply (List (ℕ × Priority)))
      × Steps old (call.TrySendv (map as_pair given)) (answer.TrySendv reply) new.due new
      × Tells (answer.TrySendv reply) told
  pub counted : new.channel.state.accepted ≡ old.channel.state.accepted + accepted
  pub put_off : has_waiters old.due ≡ true → (new ≡ old) × (told.code ≡ number Due)
  pub due : told.has_due ≡ has_waiters new.due
