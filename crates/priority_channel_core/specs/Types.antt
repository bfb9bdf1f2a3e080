-- The types of calls, answers and errors, and of what sends and receives return.
use Rattle.std.specs.Prelude.{Result}
pub use Rattle.priority_channel_core.specs.declared.calls.Answer.{Answer}
pub use Rattle.priority_channel_core.specs.declared.calls.Call.{Call}
pub use Rattle.priority_channel_core.specs.declared.calls.CorePoll.{CorePoll}
pub use Rattle.priority_channel_core.specs.declared.calls.CorePoll.TheVariants.{Pending, Ready}
pub use Rattle.priority_channel_core.specs.declared.errors.RecvError.{RecvError}
pub use Rattle.priority_channel_core.specs.declared.errors.RecvFault.{RecvFault}
pub use Rattle.priority_channel_core.specs.declared.errors.SendFault.{SendFault}
pub use Rattle.priority_channel_core.specs.declared.errors.TryRecvError.{TryRecvError}
pub use Rattle.priority_channel_core.specs.declared.errors.TryRecvManyError.{TryRecvManyError}
pub use Rattle.priority_channel_core.specs.declared.errors.TrySendError.{TrySendError}
pub use Rattle.priority_channel_core.specs.declared.errors.TrySendError.TheVariants.{Closed, Full, Memory}
pub use Rattle.priority_channel_core.specs.declared.side.Side.{Side}
pub use Rattle.priority_channel_core.specs.declared.side.Side.TheVariants.{Message, Room}
pub use Rattle.std.specs.declared.cmp.Ordering.{Ordering}

-- the reply to a try, the end of a wait, and the answer to a poll: `K` is what a send gives back
abbrev pub SendReply : Type 0 → Type 0
SendReply K = Result (Unit {0}) (TrySendError K)

abbrev pub SendEnd : Type 0 → Type 0
SendEnd K = Result (Unit {0}) (SendFault K)

abbrev pub SendPoll : Type 0 → Type 0
SendPoll K = CorePoll (SendEnd K) K

-- `A` is what a receive gives
abbrev pub RecvReply : Type 0 → Type 0
RecvReply A = Result A TryRecvError

-- the reply to a receive whose place stays held
abbrev pub LeaseReply : Type 0 → Type 0
LeaseReply A = Result A TryRecvManyError

abbrev pub RecvEnd : Type 0 → Type 0
RecvEnd A = Result A RecvFault

abbrev pub RecvPoll : Type 0 → Type 0
RecvPoll A = CorePoll (RecvEnd A) (Unit {0})
