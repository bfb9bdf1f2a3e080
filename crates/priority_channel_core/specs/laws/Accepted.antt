-- What calls accepted, received and changed, read only from the calls and their answers.
use Rattle.std.specs.Prelude.{◌≡◌, ◌-◌, false, List, [], ◌∷◌, ◌++◌, length, map, take, Some, Ok, Err, AllPairs, flat_map, IsPermutation}
use Rattle.std.specs.Ordering.{is_gt}
use Rattle.priority_channel_core.specs.declared.calls.Call.TheVariants.{TrySend, TrySendv, TrySendEvicting, ChangePriority, PollSend, PollSendv, Put}
use Rattle.priority_channel_core.specs.Prelude.{as_list, Calls, Answers, Operation, Ordering, SendReply, SendPoll, Answer, TrySendError, SendFault, Ready, Pending}

module _ {A : Type 0} where
  abbrev pub all_but : List A → List A → List A
  all_but rest pairs = take (length pairs - length rest) pairs

  abbrev pub sent : List A → SendReply (List A) → List A
  sent pairs (Ok done) = pairs
  sent pairs (Err (TrySendError.Closed rest)) = []
  sent pairs (Err (TrySendError.Full rest)) = all_but rest pairs
  sent pairs (Err (TrySendError.Memory rest)) = all_but rest pairs

  abbrev pub poll_sent : List A → SendPoll (List A) → List A
  poll_sent pairs (Ready (Ok done)) = pairs
  poll_sent pairs (Ready (Err (SendFault.Closed e))) = []
  poll_sent pairs (Ready (Err (SendFault.Memory rest))) = all_but rest pairs
  poll_sent pairs (Pending rest ticket) = all_but rest pairs

module _ {T P : Type 0} where
  abbrev pub received_by : Answers T P → List (T × P)
  received_by (Answer.TryRecv (Ok pair)) = pair ∷ []
  received_by (Answer.PollRecv (Ready (Ok pair))) = pair ∷ []
  received_by (Answer.TryLease (Ok pair)) = pair ∷ []
  received_by _ = []

  -- the pair that made room, and the pair that a test took out; neither is received
  abbrev pub displaced_by : Answers T P → List (T × P)
  displaced_by (Answer.TrySendEvicting (Ok (Some pair))) = pair ∷ []
  displaced_by _ = []

  abbrev pub taken_by : Answers T P → List (T × P)
  taken_by (Answer.TakeWhere (Some pair)) = pair ∷ []
  taken_by (Answer.LeaseWhere (Ok (Some pair))) = pair ∷ []
  taken_by _ = []

  abbrev pub NeverRise : (P → P → Ordering) → List (T × P) → Type 0
  NeverRise cmp pairs = AllPairs (λ before later. is_gt (cmp later.1 before.1) ≡ false) pairs

module _ {T P W : Type 0} where
  abbrev pub accepted_by : Calls T P W → Answers T P → List (T × P)
  accepted_by (TrySend msg priority) (Answer.TrySend reply) =
      sent ((msg, priority) ∷ []) (as_list reply)
  accepted_by (TrySendv pairs) (Answer.TrySendv reply) = sent pairs reply
  accepted_by (TrySendEvicting msg priority) (Answer.TrySendEvicting (Ok displaced)) =
      (msg, priority) ∷ []
  accepted_by (PollSend msg priority given waker) (Answer.PollSend (Ready (Ok done))) =
      (msg, priority) ∷ []
  accepted_by (PollSendv pairs given waker) (Answer.PollSendv reply) = poll_sent pairs reply
  accepted_by (Put msg priority) (Answer.Put (Ok done)) = (msg, priority) ∷ []
  accepted_by _ _ = []

  -- of these, the pair that was put in a held place
  abbrev pub put_by : Calls T P W → Answers T P → List (T × P)
  put_by (Put msg priority) (Answer.Put (Ok done)) = (msg, priority) ∷ []
  put_by _ _ = []

  -- the old priority and the new one
  abbrev pub changed_by : Calls T P W → Answers T P → List (P × P)
  changed_by (ChangePriority place priority) (Answer.ChangePriority (Ok was)) = (was, priority) ∷ []
  changed_by _ _ = []

  -- over a whole run, in order
  abbrev pub accepted_in : List (Operation T P W) → List (T × P)
  accepted_in run = flat_map (λ made. accepted_by made.call made.answer) run

  abbrev pub put_in : List (Operation T P W) → List (T × P)
  put_in run = flat_map (λ made. put_by made.call made.answer) run

  abbrev pub received_in : List (Operation T P W) → List (T × P)
  received_in run = flat_map (λ made. received_by made.answer) run

  abbrev pub displaced_in : List (Operation T P W) → List (T × P)
  displaced_in run = flat_map (λ made. displaced_by made.answer) run

  abbrev pub taken_in : List (Operation T P W) → List (T × P)
  taken_in run = flat_map (λ made. taken_by made.answer) run

  abbrev pub changed_in : List (Operation T P W) → List (P × P)
  changed_in run = flat_map (λ made. changed_by made.call made.answer) run

-- a change of priority, with the message
pub record Change (T P : Type 0) : Type 0 where
  pub msg : T
  pub was : P
  pub now : P

module _ {T P : Type 0} where
  abbrev pub priorities : Change T P → P × P
  priorities change = (change.was, change.now)

  abbrev pub before : Change T P → T × P
  before change = (change.msg, change.was)

  abbrev pub after : Change T P → T × P
  after change = (change.msg, change.now)

-- Each pair that was pending or accepted went out one way, or is left. Each change of priority took
-- out a pair, and put in another with the same message.
pub record Conserves {T P W : Type 0} (pending : List (T × P)) (run : List (Operation T P W))
    (left : List (T × P)) : Type 0 where
  pub changes : List (Change T P)
  pub told : map priorities changes ≡ changed_in run
  pub balance : IsPermutation (map after changes ++ pending ++ accepted_in run)
      (map before changes ++ received_in run ++ displaced_in run ++ taken_in run ++ left)
