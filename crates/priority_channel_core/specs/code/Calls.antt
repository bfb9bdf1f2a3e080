-- The calls of the code: a bulk send is given what holds a list; a taking and a change of
-- priority are given a test.
use Rattle.std.specs.Prelude.{◌≡◌, ℕ, List, ◌++◌, map, ⊤}
use Rattle.std.specs.List.{AllZip}
use Rattle.priority_channel_core.specs.Types.{Call, Answer, Ordering}
use Rattle.priority_channel_core.specs.declared.calls.Call.TheVariants.{TrySend, TrySendv, TrySendEvicting, TryRecv, TakeWhere, ChangePriority, Close, IsClosed, IsEmpty, IsFull, Len, Capacity, SenderCount, ReceiverCount, CloneSender, CloneReceiver, DropSender, DropReceiver, PollSend, PollSendv, PollRecv, GiveUp, CloseWhenDone, TryReserve, TryLease, LeaseWhere, Put, Free, Held}
use Rattle.priority_channel_core.specs.machine.State.{State, Handed}
use Rattle.priority_channel_core.specs.machine.Step.{Step}
use Rattle.priority_channel_core.specs.machine.Says.{Calls, Answers}
use Rattle.priority_channel_core.specs.machine.Run.{Operation, Run}
use Rattle.priority_channel_core.specs.code.Answers.{Is, IsMade, SameAnswer}
pub use Rattle.priority_channel_core.specs.code.Answers.{SameReply, SamePoll}

pub record Response (T P W M : Type 0) : Type 0 where
  pub answer : Answer T P M
  pub handed : Handed W

-- what the call is given may be called
abbrev pub MayCall : {T P W M F : Type 0} → (M → Type 0) → (F → Type 0) → Call T P W M F → Type 0
MayCall may_send may_test (TrySendv msgs) = may_send msgs
MayCall may_send may_test (PollSendv msgs given waker) = may_send msgs
MayCall may_send may_test (TakeWhere test) = may_test test
MayCall may_send may_test (ChangePriority test priority) = may_test test
MayCall may_send may_test (LeaseWhere test) = may_test test
MayCall may_send may_test made = ⊤

-- `so` holds of the call that is meant; if the call is given a test, of one at some place
abbrev pub AtSomePlace : {T P W M F : Type 0} → Call T P W M F → Calls T P W
    → (Calls T P W → Type 0) → Type 0
AtSomePlace (TakeWhere test) meant so = (place : ℕ) × so (TakeWhere place)
AtSomePlace (ChangePriority test priority) meant so =
    (place : ℕ) × so (ChangePriority place priority)
AtSomePlace (LeaseWhere test) meant so = (place : ℕ) × so (LeaseWhere place)
AtSomePlace made meant so = so meant

abbrev pub SameButPlace : {T P W : Type 0} → Calls T P W → Calls T P W → Type 0
SameButPlace made other = AtSomePlace made made (Is other)

module _ {T P W M F : Type 0} (holds : M → List (T × P) → Type 0) where
  -- a call that is given a test is one at any place
  abbrev pub SameCall : Call T P W M F → Calls T P W → Type 0
  SameCall (TrySendv msgs) = IsMade (holds msgs) TrySendv
  SameCall (PollSendv msgs given waker) = IsMade (holds msgs) (λ pairs. PollSendv pairs given waker)
  SameCall (TrySend msg priority) = Is (TrySend msg priority)
  SameCall (TrySendEvicting msg priority) = Is (TrySendEvicting msg priority)
  SameCall TryRecv = Is TryRecv
  SameCall (TakeWhere test) = IsMade (λ place. ⊤) TakeWhere
  SameCall (ChangePriority test priority) =
      IsMade (λ place. ⊤) (λ place. ChangePriority place priority)
  SameCall Close = Is Close
  SameCall IsClosed = Is IsClosed
  SameCall IsEmpty = Is IsEmpty
  SameCall IsFull = Is IsFull
  SameCall Len = Is Len
  SameCall Capacity = Is Capacity
  SameCall SenderCount = Is SenderCount
  SameCall ReceiverCount = Is ReceiverCount
  SameCall CloneSender = Is CloneSender
  SameCall CloneReceiver = Is CloneReceiver
  SameCall DropSender = Is DropSender
  SameCall DropReceiver = Is DropReceiver
  SameCall (PollSend msg priority given waker) = Is (PollSend msg priority given waker)
  SameCall (PollRecv given waker) = Is (PollRecv given waker)
  SameCall (GiveUp ticket) = Is (GiveUp ticket)
  SameCall CloseWhenDone = Is CloseWhenDone
  SameCall TryReserve = Is TryReserve
  SameCall TryLease = Is TryLease
  SameCall (LeaseWhere test) = IsMade (λ place. ⊤) LeaseWhere
  SameCall (Put msg priority) = Is (Put msg priority)
  SameCall Free = Is Free
  SameCall Held = Is Held

module _ {T P W M : Type 0} (holds : M → List (T × P) → Type 0) where
  abbrev pub SameOperation : Response T P W M → Operation T P W → Type 0
  SameOperation done made = SameAnswer holds done.answer made.answer × (made.handed ≡ done.handed)

module _ {T P W M F : Type 0} (holds : M → List (T × P) → Type 0) (cmp : P → P → Ordering)
    (is_clone : W → W → Type 0) where
  -- a call of the code is a step, for every list that a bulk send holds
  pub record Makes (old : State T P W) (made : Call T P W M F) (reply : Answer T P M)
      (handed : Handed W) (new : State T P W) : Type 0 where
    pub at : (meant : Calls T P W) → SameCall holds made meant
        → (told : Answers T P) × SameAnswer holds reply told
        × AtSomePlace made meant (λ call. Step cmp is_clone old call told handed new)

  -- a prefix of the calls was made, in a run, and the others are left
  pub record RunsFront (old : State T P W) (calls : List (Call T P W M F))
      (done : List (Response T P W M)) (left : List (Call T P W M F))
      (new : State T P W) : Type 0 where
    pub at : (meant : List (Calls T P W)) → AllZip (SameCall holds) calls meant
        → (run : List (Operation T P W)) × (others : List (Calls T P W))
        × AllZip SameButPlace meant (map (λ made. made.call) run ++ others)
        × AllZip (SameOperation holds) done run × AllZip (SameCall holds) left others
        × Run cmp is_clone old run new

-- of a call that is given no test
abbrev pub Performs : {T P W M : Type 0} → (M → List (T × P) → Type 0) → (P → P → Ordering)
    → (W → W → Type 0) → State T P W → Call T P W M ⊥ → Answer T P M → Handed W → State T P W
    → Type 0
Performs holds cmp is_clone = Makes holds cmp is_clone
