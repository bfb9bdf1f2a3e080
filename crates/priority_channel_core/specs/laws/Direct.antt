-- Calls that no future makes.
use Rattle.std.specs.Prelude.{⊤}
use Rattle.priority_channel_core.specs.declared.calls.Call.TheVariants.{PollSend, PollSendv, PollRecv, GiveUp}
use Rattle.priority_channel_core.specs.Prelude.{Calls}

module _ {T P W : Type 0} where
  abbrev pub IsDirect : Calls T P W → Type 0
  IsDirect (PollSend msg priority given waker) = ⊥
  IsDirect (PollSendv pairs given waker) = ⊥
  IsDirect (PollRecv given waker) = ⊥
  IsDirect (GiveUp ticket) = ⊥
  IsDirect _ = ⊤
