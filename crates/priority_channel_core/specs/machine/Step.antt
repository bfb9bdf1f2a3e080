-- A call, its answer, whom it wakes, and the state after it.
use Rattle.priority_channel_core.specs.Types.{Room, Message, Ordering, Answer}
use Rattle.priority_channel_core.specs.declared.calls.Call.TheVariants.{TrySend, TrySendv, TryRecv, PollSend, PollSendv, PollRecv}
use Rattle.priority_channel_core.specs.machine.State.{State, Handed}
use Rattle.priority_channel_core.specs.machine.Good.{IsGood}
use Rattle.priority_channel_core.specs.machine.Change.{Does}
use Rattle.priority_channel_core.specs.machine.Says.{Calls, Answers, Says}
use Rattle.priority_channel_core.specs.machine.Polls.{send_answer, recv_answer, Polls}

-- `is_clone waker kept`: a clone may give `kept`
module _ {T P W : Type 0} (cmp : P → P → Ordering) (is_clone : W → W → Type 0)
    (old : State T P W) where
  abbrev Tries : Calls T P W → Answers T P → Handed W → State T P W → Type 0
  Tries made reply handed new = Says cmp old new.pending (Does old handed new) made reply

  abbrev pub Moves : Calls T P W → Answers T P → Handed W → State T P W → Type 0
  Moves (PollSend msg priority given waker) (Answer.PollSend polled) =
      Polls is_clone (λ reply. Tries (TrySend msg priority) (Answer.TrySend reply)) send_answer
      Room given waker polled
  Moves (PollSendv pairs given waker) (Answer.PollSendv polled) =
      Polls is_clone (λ reply. Tries (TrySendv pairs) (Answer.TrySendv reply)) send_answer Room
      given waker polled
  Moves (PollRecv given waker) (Answer.PollRecv polled) =
      Polls is_clone (λ reply. Tries TryRecv (Answer.TryRecv reply)) recv_answer Message given
      waker polled
  Moves made reply = Tries made reply

  pub record Step (made : Calls T P W) (reply : Answers T P) (handed : Handed W) (new : State T P W)
      : Type 0 where
    pub moves : Moves made reply handed new
    pub good : IsGood new
