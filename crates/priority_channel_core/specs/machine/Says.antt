-- When a call has an answer, and what it changes.
use Rattle.std.specs.Prelude.{◌≡◌, ℕ, ◌+◌, ◌-◌, ◌<◌, ◌≤◌, ◌^◌, ◌⊎◌, Bool, true, false, ◌==◌, if◌then◌else◌, List, [], ◌∷◌, length, Option, Some, None, Ok, Err}
use Rattle.priority_channel_core.specs.Types.{Call, Answer, TryRecvManyError, Side, Room, Message, Ordering, Full, Closed, Memory}
use Rattle.priority_channel_core.specs.declared.calls.Call.TheVariants.{TrySend, TrySendv, TrySendEvicting, TryRecv, TakeWhere, ChangePriority, Close, IsClosed, IsEmpty, IsFull, Len, Capacity, SenderCount, ReceiverCount, CloneSender, CloneReceiver, DropSender, DropReceiver, GiveUp, CloseWhenDone, TryReserve, TryLease, LeaseWhere, Put, Free, Held}
use Rattle.priority_channel_core.specs.Errors.{batch_error_for}
use Rattle.priority_channel_core.specs.bag.Prelude.{TakesGreatest, TakesOne, Changes}
use Rattle.priority_channel_core.specs.machine.State.{State, used, room, IsOver, IsGoingOn}
use Rattle.priority_channel_core.specs.machine.Change.{Change, Nothing, GoesOut, Lends, Reprices, Holds, Fills, Frees, Shuts, Marks, Counts, Unlists}
use Rattle.priority_channel_core.specs.machine.Sends.{as_list, Sends, Evicts}

-- with lists for bulk sends, and places for tests
abbrev pub Calls : (T P W : Type 0) → Type 0
Calls T P W = Call T P W (List (T × P)) ℕ

abbrev pub Answers : (T P : Type 0) → Type 0
Answers T P = Answer T P (List (T × P))

abbrev pub capacity_told : ℕ → Option ℕ
capacity_told capacity = if capacity == 2 ^ 64 - 1 then None else Some capacity

-- `left` is pending afterwards
module _ {T P W : Type 0} (cmp : P → P → Ordering) (old : State T P W) (left : List (T × P))
    (does : Change T P → Type 0) where
  -- why no pair goes out
  abbrev Refuses : TryRecvManyError → Type 0
  Refuses TryRecvManyError.Closed = (old.pending ≡ []) × IsOver old × does Nothing
  Refuses TryRecvManyError.Empty = (old.pending ≡ []) × IsGoingOn old × does Nothing
  Refuses TryRecvManyError.Memory =
      (0 < length old.pending) × (old.accepted + old.held ≡ 2 ^ 64 - 1) × does Nothing

  abbrev Looks : {A : Type 0} → A → A → Type 0
  Looks value told = (told ≡ value) × does Nothing

  abbrev pub Clones : Side → ℕ → Bool → Type 0
  Clones side count true = (count < 2 ^ 63) × does (Counts side (count + 1))
  Clones side count false = (2 ^ 63 ≤ count) × does Nothing

  abbrev pub Says : Calls T P W → Answers T P → Type 0
  Says (TrySend msg priority) (Answer.TrySend reply) =
      Sends old does ((msg, priority) ∷ []) (as_list reply)
  Says (TrySendv pairs) (Answer.TrySendv reply) = Sends old does pairs reply
  Says (TrySendEvicting msg priority) (Answer.TrySendEvicting reply) =
      Evicts old does cmp (msg, priority) reply
  Says TryRecv (Answer.TryRecv (Ok pair)) =
      TakesGreatest cmp old.pending pair left × does (GoesOut left)
  Says TryRecv (Answer.TryRecv (Err why)) = Refuses (batch_error_for why)
  Says TryLease (Answer.TryLease (Ok pair)) =
      TakesGreatest cmp old.pending pair left × does (Lends left)
  Says TryLease (Answer.TryLease (Err why)) = Refuses why
  -- a place in the order of acceptance
  Says (TakeWhere place) (Answer.TakeWhere (Some pair)) =
      (taken : TakesOne old.pending pair left) × (length taken.before ≡ place)
      × does (GoesOut left)
  Says (TakeWhere place) (Answer.TakeWhere None) = (length old.pending ≤ place) × does Nothing
  Says (LeaseWhere place) (Answer.LeaseWhere (Ok (Some pair))) =
      (taken : TakesOne old.pending pair left) × (length taken.before ≡ place) × does (Lends left)
  Says (LeaseWhere place) (Answer.LeaseWhere (Ok None)) =
      (0 < length old.pending) × (length old.pending ≤ place) × does Nothing
  Says (LeaseWhere place) (Answer.LeaseWhere (Err why)) = Refuses why
  Says (ChangePriority place priority) (Answer.ChangePriority (Ok was)) =
      (change : Changes old.pending was priority left) × (length change.before ≡ place)
      × does (Reprices left)
  Says (ChangePriority place priority) (Answer.ChangePriority (Err back)) =
      (length old.pending ≤ place) × (back ≡ priority) × does Nothing
  Says TryReserve (Answer.TryReserve (Ok done)) =
      (old.is_closed ≡ false) × (0 < room old) × does Holds
  Says TryReserve (Answer.TryReserve (Err (Closed none))) =
      (old.is_closed ≡ true) × does Nothing
  Says TryReserve (Answer.TryReserve (Err (Full none))) =
      (old.is_closed ≡ false) × (room old ≡ 0) × does Nothing
  Says TryReserve (Answer.TryReserve (Err (Memory none))) =
      (old.is_closed ≡ false) × (0 < room old) × does Nothing
      × ((old.is_reserved ≡ false) ⊎ (old.accepted + old.held ≡ 2 ^ 64 - 1))
  -- also in a closed channel
  Says (Put msg priority) (Answer.Put (Ok done)) = (0 < old.held) × does (Fills (msg, priority))
  Says (Put msg priority) (Answer.Put (Err back)) =
      (old.held ≡ 0) × (back ≡ (msg, priority)) × does Nothing
  Says Free (Answer.Free true) = (0 < old.held) × does Frees
  Says Free (Answer.Free false) = (old.held ≡ 0) × does Nothing
  Says Close (Answer.Close true) = (old.is_closed ≡ false) × does Shuts
  Says Close (Answer.Close false) = (old.is_closed ≡ true) × does Nothing
  Says CloseWhenDone Answer.CloseWhenDone = does Marks
  Says CloneSender (Answer.CloneSender done) = Clones Room old.sender_count done
  Says CloneReceiver (Answer.CloneReceiver done) = Clones Message old.receiver_count done
  Says DropSender Answer.DropSender =
      (0 < old.sender_count) × does (Counts Room (old.sender_count - 1))
  Says DropReceiver Answer.DropReceiver =
      (0 < old.receiver_count) × does (Counts Message (old.receiver_count - 1))
  Says (GiveUp ticket) Answer.GiveUp = does (Unlists ticket)
  Says IsClosed (Answer.IsClosed told) = Looks old.is_closed told
  Says IsEmpty (Answer.IsEmpty told) = Looks (length old.pending == 0) told
  Says IsFull (Answer.IsFull told) = Looks (used old == old.capacity) told
  Says Len (Answer.Len told) = Looks (length old.pending) told
  Says Held (Answer.Held told) = Looks old.held told
  Says Capacity (Answer.Capacity told) = Looks (capacity_told old.capacity) told
  Says SenderCount (Answer.SenderCount told) = Looks old.sender_count told
  Says ReceiverCount (Answer.ReceiverCount told) = Looks old.receiver_count told
  Says _ _ = ⊥
