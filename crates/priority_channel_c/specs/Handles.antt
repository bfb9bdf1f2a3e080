-- The drop of a handle, which is refused where there is none.
use Rattle.std.specs.Prelude.{◌≡◌, ℕ, ◌<◌, if◌then◌else◌}
use Rattle.priority_channel_core.specs.Prelude.{Calls}
use Rattle.priority_channel_c.specs.declared.priority.Priority.{Priority}
use Rattle.priority_channel_c.specs.declared.reply.Reply.{Reply}
use Rattle.priority_channel_c.specs.declared.codes.Code.TheVariants.{Nothing, Due}
use Rattle.priority_channel_c.specs.declared.state.Core.{Core}
use Rattle.priority_channel_c.specs.Codes.{number}
use Rattle.priority_channel_c.specs.Replies.{Makes, has_waiters}

abbrev pub senders : Core → ℕ
senders core = core.channel.state.sender_count

abbrev pub receivers : Core → ℕ
receivers core = core.channel.state.receiver_count

-- where there is one it is a step, and where there is none nothing changes
pub record Drops (count : Core → ℕ) (made : Calls ℕ Priority ℕ) (told : Reply) (old new : Core)
    : Type 0 where
  pub some : 0 < count old → Makes made told old new
  pub none : count old ≡ 0 → (new ≡ old) × (told.has_due ≡ has_waiters old.due)
      × (told.code ≡ number (if has_waiters old.due then Due else Nothing))
