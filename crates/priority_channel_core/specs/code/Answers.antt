-- The answers of the code, where a bulk send gives back what holds a list.
use Rattle.std.specs.Prelude.{◌≡◌, List, Ok, Err}
use Rattle.priority_channel_core.specs.Types.{Answer, Ready, Pending, Closed, Full, Memory, SendReply, SendPoll, SendFault}
use Rattle.priority_channel_core.specs.declared.calls.Answer.TheVariants.{TrySend, TrySendv, TrySendEvicting, TryRecv, TakeWhere, ChangePriority, Close, IsClosed, IsEmpty, IsFull, Len, Capacity, SenderCount, ReceiverCount, CloneSender, CloneReceiver, DropSender, DropReceiver, PollSend, PollSendv, PollRecv, GiveUp, CloseWhenDone, TryReserve, TryLease, LeaseWhere, Put, Free, Held}
use Rattle.priority_channel_core.specs.machine.Says.{Answers}

abbrev pub Is : {A : Type 0} → A → A → Type 0
Is one other = other ≡ one

-- `whole` is made from a part of which R holds
abbrev pub IsMade : {A B : Type 0} → (A → Type 0) → (A → B) → B → Type 0
IsMade {A} R make whole = (part : A) × (whole ≡ make part) × R part

-- `holds m list`: m holds the list
module _ {T P M : Type 0} (holds : M → List (T × P) → Type 0) where
  abbrev pub SameReply : SendReply M → SendReply (List (T × P)) → Type 0
  SameReply (Ok done) = Is (Ok tt)
  SameReply (Err (Closed m)) = IsMade (holds m) (λ rest. Err (Closed rest))
  SameReply (Err (Full m)) = IsMade (holds m) (λ rest. Err (Full rest))
  SameReply (Err (Memory m)) = IsMade (holds m) (λ rest. Err (Memory rest))

  abbrev pub SamePoll : SendPoll M → SendPoll (List (T × P)) → Type 0
  SamePoll (Ready (Ok done)) = Is (Ready (Ok tt))
  SamePoll (Ready (Err (SendFault.Closed e))) =
      IsMade (holds e.0) (λ rest. Ready (Err (SendFault.Closed (record { 0 = rest }))))
  SamePoll (Ready (Err (SendFault.Memory m))) =
      IsMade (holds m) (λ rest. Ready (Err (SendFault.Memory rest)))
  SamePoll (Pending m ticket) = IsMade (holds m) (λ rest. Pending rest ticket)

  abbrev pub SameAnswer : Answer T P M → Answers T P → Type 0
  SameAnswer (TrySendv reply) = IsMade (SameReply reply) TrySendv
  SameAnswer (PollSendv poll) = IsMade (SamePoll poll) PollSendv
  SameAnswer (TrySend reply) = Is (TrySend reply)
  SameAnswer (TrySendEvicting reply) = Is (TrySendEvicting reply)
  SameAnswer (TryRecv reply) = Is (TryRecv reply)
  SameAnswer (TakeWhere taken) = Is (TakeWhere taken)
  SameAnswer (ChangePriority changed) = Is (ChangePriority changed)
  SameAnswer (Close was_open) = Is (Close was_open)
  SameAnswer (IsClosed b) = Is (IsClosed b)
  SameAnswer (IsEmpty b) = Is (IsEmpty b)
  SameAnswer (IsFull b) = Is (IsFull b)
  SameAnswer (Len n) = Is (Len n)
  SameAnswer (Capacity n) = Is (Capacity n)
  SameAnswer (SenderCount n) = Is (SenderCount n)
  SameAnswer (ReceiverCount n) = Is (ReceiverCount n)
  SameAnswer (CloneSender done) = Is (CloneSender done)
  SameAnswer (CloneReceiver done) = Is (CloneReceiver done)
  SameAnswer DropSender = Is DropSender
  SameAnswer DropReceiver = Is DropReceiver
  SameAnswer (PollSend poll) = Is (PollSend poll)
  SameAnswer (PollRecv poll) = Is (PollRecv poll)
  SameAnswer GiveUp = Is GiveUp
  SameAnswer CloseWhenDone = Is CloseWhenDone
  SameAnswer (TryReserve reply) = Is (TryReserve reply)
  SameAnswer (TryLease reply) = Is (TryLease reply)
  SameAnswer (LeaseWhere reply) = Is (LeaseWhere reply)
  SameAnswer (Put reply) = Is (Put reply)
  SameAnswer (Free done) = Is (Free done)
  SameAnswer (Held n) = Is (Held n)
