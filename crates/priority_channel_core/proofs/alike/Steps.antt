-- Two steps, and two runs, over the same calls that accept as many pairs, and answer Memory in both
-- or in neither.
use Rattle.std.proofs.Common.{◌≡◌, ◌-◌, List, [], ◌∷◌, length, refl, ap, ◌==◌}
use Rattle.std.specs.Cmp.{IsTotalOrder}
use Rattle.std.specs.List.{AllZip}
use Rattle.priority_channel_core.specs.Prelude.{State, Handed, as_list, Change, Does, Says, Moves, Calls, Answers, Operation, Run, Ordering, Call, Answer, Room, Message}
use Rattle.priority_channel_core.specs.laws.Accepted.{accepted_by}
use Rattle.priority_channel_core.specs.laws.Alike.{is_memory, SameState, SameOutcome, IsAlike}
use Rattle.priority_channel_core.proofs.alike.Lists.{same_pending, same_held, same_closed, same_capacity, same_senders, same_receivers}
use Rattle.priority_channel_core.proofs.alike.Calls.{sends_same, takes_same, changes_same, receives_same, closes_same, looks_same, clones_same, reserves_same, leases_same, leases_at_same, puts_same, frees_same}
use Rattle.priority_channel_core.proofs.alike.Changes.{Both, does_same}
use Rattle.priority_channel_core.proofs.alike.Evicting.{as_list_one, evicts_same}
use Rattle.priority_channel_core.proofs.alike.Polls.{polls_send_same, polls_sendv_same, polls_receive_same}

told : {A B X : Type 0} (f : A → B) {x y : A} → (y ≡ x) × X → (f y ≡ f x) × X
told f t = (ap f t.0, t.1)

module _ {T P W : Type 0} (is_clone : W → W → Type 0) {cmp : P → P → Ordering} (o : IsTotalOrder cmp) where
  module _ {s r : State T P W} (same : SameState is_clone s r) (left left' : List (T × P)) (does does' : Change T P → Type 0) where
    says_same : (made : Calls T P W) (x y : Answers T P) → Says cmp s left does made x → Says cmp r left' does' made y
        → length (accepted_by made y) ≡ length (accepted_by made x) → is_memory y ≡ is_memory x → (y ≡ x) × ((c : Change T P) × does c × does' c)
    says_same (Call.TrySend m p) (Answer.TrySend x) (Answer.TrySend y) a b count memory =
        let t = sends_same is_clone same o left left' does does' ((m, p) ∷ []) (as_list x) (as_list y) a b count in (ap (λ z. Answer.TrySend z) (as_list_one x y t.0), t.1)
    says_same (Call.TrySendv pairs) (Answer.TrySendv x) (Answer.TrySendv y) a b count memory = told Answer.TrySendv (sends_same is_clone same o left left' does does' pairs x y a b count)
    says_same (Call.TrySendEvicting m p) (Answer.TrySendEvicting x) (Answer.TrySendEvicting y) a b count memory =
        told Answer.TrySendEvicting (evicts_same is_clone o same left left' does does' m p x y a b count memory)
    says_same (Call.TakeWhere place) (Answer.TakeWhere x) (Answer.TakeWhere y) a b count memory = told Answer.TakeWhere (takes_same is_clone same o left left' does does' place x y a b)
    says_same (Call.ChangePriority place priority) (Answer.ChangePriority x) (Answer.ChangePriority y) a b count memory =
        told Answer.ChangePriority (changes_same is_clone same o left left' does does' place priority x y a b)
    says_same Call.TryRecv (Answer.TryRecv x) (Answer.TryRecv y) a b count memory = told Answer.TryRecv (receives_same is_clone same o left left' does does' x y a b)
    says_same Call.Close (Answer.Close x) (Answer.Close y) a b count memory = told Answer.Close (closes_same is_clone same o left left' does does' x y a b)
    says_same Call.IsClosed (Answer.IsClosed x) (Answer.IsClosed y) a b count memory =
        told Answer.IsClosed (looks_same is_clone same o left left' does does' (same_closed is_clone same) a b)
    says_same Call.IsEmpty (Answer.IsEmpty x) (Answer.IsEmpty y) a b count memory =
        told Answer.IsEmpty (looks_same is_clone same o left left' does does' (ap (λ (l : List (T × P)). length l == 0) (same_pending is_clone same)) a b)
    says_same Call.IsFull (Answer.IsFull x) (Answer.IsFull y) a b count memory =
        told Answer.IsFull (looks_same is_clone same o left left' does does' (rw ((same_pending is_clone same), (same_held is_clone same), (same_capacity is_clone same)) refl) a b)
    says_same Call.Len (Answer.Len x) (Answer.Len y) a b count memory = told Answer.Len (looks_same is_clone same o left left' does does' (ap length (same_pending is_clone same)) a b)
    says_same Call.Capacity (Answer.Capacity x) (Answer.Capacity y) a b count memory =
        told Answer.Capacity (looks_same is_clone same o left left' does does' (rw (same_capacity is_clone same) refl) a b)
    says_same Call.SenderCount (Answer.SenderCount x) (Answer.SenderCount y) a b count memory =
        told Answer.SenderCount (looks_same is_clone same o left left' does does' (same_senders is_clone same) a b)
    says_same Call.ReceiverCount (Answer.ReceiverCount x) (Answer.ReceiverCount y) a b count memory =
        told Answer.ReceiverCount (looks_same is_clone same o left left' does does' (same_receivers is_clone same) a b)
    says_same Call.Held (Answer.Held x) (Answer.Held y) a b count memory = told Answer.Held (looks_same is_clone same o left left' does does' (same_held is_clone same) a b)
    says_same Call.CloneSender (Answer.CloneSender x) (Answer.CloneSender y) a b count memory =
        told Answer.CloneSender (clones_same is_clone same o left left' does does' _ _ _ x y (same_senders is_clone same) a b)
    says_same Call.CloneReceiver (Answer.CloneReceiver x) (Answer.CloneReceiver y) a b count memory =
        told Answer.CloneReceiver (clones_same is_clone same o left left' does does' _ _ _ x y (same_receivers is_clone same) a b)
    says_same Call.DropSender Answer.DropSender Answer.DropSender a b count memory = (refl, (Change.Counts Room (s.sender_count - 1), a.1, rw (same_senders is_clone same) at b.1))
    says_same Call.DropReceiver Answer.DropReceiver Answer.DropReceiver a b count memory = (refl, (Change.Counts Message (s.receiver_count - 1), a.1, rw (same_receivers is_clone same) at b.1))
    says_same (Call.GiveUp ticket) Answer.GiveUp Answer.GiveUp a b count memory = (refl, (Change.Unlists ticket, a, b))
    says_same Call.CloseWhenDone Answer.CloseWhenDone Answer.CloseWhenDone a b count memory = (refl, (Change.Marks, a, b))
    says_same Call.TryReserve (Answer.TryReserve x) (Answer.TryReserve y) a b count memory = told Answer.TryReserve (reserves_same is_clone same o left left' does does' x y a b memory)
    says_same Call.TryLease (Answer.TryLease x) (Answer.TryLease y) a b count memory = told Answer.TryLease (leases_same is_clone same o left left' does does' x y a b memory)
    says_same (Call.LeaseWhere place) (Answer.LeaseWhere x) (Answer.LeaseWhere y) a b count memory =
        told Answer.LeaseWhere (leases_at_same is_clone same o left left' does does' place x y a b memory)
    says_same (Call.Put m p) (Answer.Put x) (Answer.Put y) a b count memory = told Answer.Put (puts_same is_clone same o left left' does does' (m, p) x y a b)
    says_same Call.Free (Answer.Free x) (Answer.Free y) a b count memory = told Answer.Free (frees_same is_clone same o left left' does does' x y a b)
    says_same made x y a b count memory = absurd (assumption)

  module _ (s r k k' : State T P W) (h h' : Handed W) (same : SameState is_clone s r) where
    at_once : (made : Calls T P W) (x y : Answers T P) → Says cmp s k.pending (Does s h k) made x → Says cmp r k'.pending (Does r h' k') made y
        → length (accepted_by made y) ≡ length (accepted_by made x) → is_memory y ≡ is_memory x → (y ≡ x) × Both is_clone h h' k k'
    at_once made x y a b count memory =
        let one = says_same same k.pending k'.pending (Does s h k) (Does r h' k') made x y a b count memory in
        (one.0, does_same is_clone s r same k k' h h' one.1.0 one.1.1 one.1.2)

    pub step_same : (made : Calls T P W) (x y : Answers T P) → Moves cmp is_clone s made x h k → Moves cmp is_clone r made y h' k'
        → length (accepted_by made y) ≡ length (accepted_by made x) → is_memory y ≡ is_memory x → (y ≡ x) × Both is_clone h h' k k'
    step_same (Call.PollSend m p given waker) (Answer.PollSend x) (Answer.PollSend y) a b count memory =
        told Answer.PollSend (polls_send_same is_clone o s r k k' h h' same m p given waker x y a b count memory)
    step_same (Call.PollSendv pairs given waker) (Answer.PollSendv x) (Answer.PollSendv y) a b count memory =
        told Answer.PollSendv (polls_sendv_same is_clone o s r k k' h h' same pairs given waker x y a b count memory)
    step_same (Call.PollRecv given waker) (Answer.PollRecv x) (Answer.PollRecv y) a b count memory =
        told Answer.PollRecv (polls_receive_same is_clone o s r k k' h h' same given waker x y a b memory)
    step_same (Call.PollSend m p given waker) x y a b count memory = absurd (assumption)
    step_same (Call.PollSendv pairs given waker) x y a b count memory = absurd (assumption)
    step_same (Call.PollRecv given waker) x y a b count memory = absurd (assumption)
    step_same made x y a b count memory = at_once made x y a b count memory

  pub runs_same : (s r new other : State T P W) (run another : List (Operation T P W)) → SameState is_clone s r → Run cmp is_clone s run new → Run cmp is_clone r another other
      → AllZip IsAlike run another → AllZip (SameOutcome is_clone) run another × SameState is_clone new other
  runs_same s r new other [] [] same a b alike = (tt, rw (a, b) same)
  runs_same s r new other [] (y ∷ another) same a b alike = absurd alike
  runs_same s r new other (x ∷ run) [] same a b alike = absurd alike
  runs_same s r new other (x ∷ run) (y ∷ another) same a b alike =
      let first = alike.0 in
      let moves : Moves cmp is_clone r x.call y.answer y.handed b.0 = rw first.same_call at b.1.moves in
      let count : length (accepted_by x.call y.answer) ≡ length (accepted_by x.call x.answer) = rw first.same_call at first.as_many in
      let t = step_same s r a.0 b.0 x.handed y.handed same x.call x.answer y.answer a.1.moves moves count first.memory in
      let rest = runs_same a.0 b.0 new other run another t.1.state a.2 b.2 alike.1 in
      ((record { answer = t.0; handed = t.1.handed }, rest.0), rest.1)
