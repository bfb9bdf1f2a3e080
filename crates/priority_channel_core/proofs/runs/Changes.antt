-- Which change a step makes, and what its call and answer say of it.
use Rattle.std.proofs.Common.{◌≡◌, ℕ, ◌-◌, ◌+◌, ◌<◌, ◌⊎◌, Bool, true, false, List, [], ◌∷◌, ◌++◌, length, refl, arith, inl, inr, length-append, Option, Some, None, Result, Ok, Err}
use Rattle.std.proofs.Math.Seq.{take-append_seam}
use Rattle.priority_channel_core.specs.bag.Prelude.{TakesGreatest, TakesLeast, TakesOne, Changes}
use Rattle.priority_channel_core.specs.Prelude.{Side, State, Handed, as_list, Change, Does, Says, Sends, Evicts, Clones, send_answer, recv_answer, Moves, Calls, Answers, Ordering, SendReply, RecvReply, SendPoll, RecvPoll, Call, Answer, TryRecvError, TryRecvManyError, Room, Message, TrySendError}
use Rattle.priority_channel_core.specs.laws.Accepted.{all_but, sent, poll_sent, accepted_by, put_by, received_by, displaced_by, taken_by, changed_by}
use Rattle.priority_channel_core.specs.laws.Places.{got_by, given_by}
use Rattle.priority_channel_core.specs.laws.Direct.{IsDirect}
use Rattle.priority_channel_core.specs.laws.Done.{Closes}
use Rattle.priority_channel_core.proofs.Polls.{send_answers}

pub all_but-front : {A : Type 0} (front rest : List A) → all_but rest (front ++ rest) ≡ front
all_but-front front rest =
    let l = length-append front rest in let e : length (front ++ rest) - length rest ≡ length front = omega (arith, l) in
    rw e (take-append_seam front rest)

-- the pairs that came in and went out, the priorities that changed, and the held places
pub record Account (T P : Type 0) : Type 0 where
  pub accepted : List (T × P)
  pub put : List (T × P)
  pub received : List (T × P)
  pub displaced : List (T × P)
  pub taken : List (T × P)
  pub changed : List (P × P)
  pub got : ℕ
  pub given : ℕ

module _ {T P : Type 0} where
  abbrev pub nothing : Account T P
  nothing = record { accepted = []; put = []; received = []; displaced = []; taken = []; changed = []; got = 0; given = 0 }

  abbrev pub adding : List (T × P) → Account T P
  adding front = record nothing { accepted = front }

  abbrev pub account : {W : Type 0} → Calls T P W → Answers T P → Account T P
  account made reply = record {
    accepted = accepted_by made reply;
    put = put_by made reply;
    received = received_by reply;
    displaced = displaced_by reply;
    taken = taken_by reply;
    changed = changed_by made reply;
    got = got_by reply;
    given = given_by reply;
  }

module _ {T P W : Type 0} (cmp : P → P → Ordering) (old : State T P W) where
  abbrev pub OneOut : List (T × P) → ℕ → Account T P → Type 0
  OneOut left got a =
      (pair : T × P) × ((TakesGreatest cmp old.pending pair left × (a ≡ record nothing { received = pair ∷ []; got = got }))
      ⊎ (TakesOne old.pending pair left × (a ≡ record nothing { taken = pair ∷ []; got = got })))

  -- what each change shows of the account, and of its call: that it closes, marks or unlists
  abbrev pub Fits : (closes marks unlists : Type 0) → Account T P → Change T P → Type 0
  Fits closes marks unlists a (Change.Adds front) = (old.is_closed ≡ false) × (a ≡ adding front)
  Fits closes marks unlists a (Change.GoesOut left) = OneOut left 0 a
  Fits closes marks unlists a (Change.Lends left) = OneOut left 1 a
  Fits closes marks unlists a (Change.MakesWay left pair) =
      (old.is_closed ≡ false) × (out : T × P) × TakesLeast cmp old.pending out left
      × (a ≡ record nothing { accepted = pair ∷ []; displaced = out ∷ [] })
  Fits closes marks unlists a (Change.Reprices left) =
      (was : P) × (now : P) × Changes old.pending was now left × (a ≡ record nothing { changed = (was, now) ∷ [] })
  Fits closes marks unlists a Change.Holds = a ≡ record nothing { got = 1 }
  Fits closes marks unlists a (Change.Fills pair) = (0 < old.held) × (a ≡ record nothing { accepted = pair ∷ []; put = pair ∷ []; given = 1 })
  Fits closes marks unlists a Change.Frees = (0 < old.held) × (a ≡ record nothing { given = 1 })
  Fits closes marks unlists a Change.Shuts = closes × (a ≡ nothing)
  Fits closes marks unlists a Change.Marks = marks × (a ≡ nothing)
  Fits closes marks unlists a (Change.Counts side n) = (n ≡ 0 → closes) × (a ≡ nothing)
  Fits closes marks unlists a (Change.Unlists ticket) = unlists × (a ≡ nothing)
  Fits closes marks unlists a _ = a ≡ nothing

module _ {T P W : Type 0} (cmp : P → P → Ordering) (old : State T P W) (left : List (T × P)) (does : Change T P → Type 0) where
  -- one change is made, and fits
  abbrev Made : Type 0 → Type 0 → Type 0 → Account T P → Type 0
  Made closes marks unlists a = (c : Change T P) × Fits cmp old closes marks unlists a c × does c

  module _ {closes marks unlists : Type 0} where
    same : does Change.Nothing → Made closes marks unlists nothing
    same h = (Change.Nothing, refl, h)

    sends : (pairs : List (T × P)) (reply : SendReply (List (T × P))) → Sends old does pairs reply → Made closes marks unlists (adding (sent pairs reply))
    sends pairs (Ok done) h = (Change.Adds pairs, (h.2.0, refl), h.2.1)
    sends pairs (Err (TrySendError.Closed rest)) h = same h.2
    sends pairs (Err (TrySendError.Full rest)) h = (Change.Adds h.0, (h.4.0, rw (h.1, all_but-front h.0 rest) refl), h.4.1)
    sends pairs (Err (TrySendError.Memory rest)) h = (Change.Adds h.0, (h.4.0, rw (h.1, all_but-front h.0 rest) refl), h.4.1)

    receives : (reply : RecvReply (T × P)) → Says cmp old left does Call.TryRecv (Answer.TryRecv reply) → Made closes marks unlists (account {W = W} Call.TryRecv (Answer.TryRecv reply))
    receives (Ok pair) h = (Change.GoesOut left, (pair, inl (h.0, refl)), h.1)
    receives (Err TryRecvError.Closed) h = same h.2
    receives (Err TryRecvError.Empty) h = same h.2

    evicts : (msg : T) (priority : P) (reply : Result (Option (T × P)) (TrySendError (T × P))) → Evicts old does cmp (msg, priority) reply
        → Made closes marks unlists (account {W = W} (Call.TrySendEvicting msg priority) (Answer.TrySendEvicting reply))
    evicts msg priority (Ok None) h = (Change.Adds ((msg, priority) ∷ []), (h.2.0, refl), h.2.1)
    evicts msg priority (Ok (Some out)) h = (Change.MakesWay h.0 (msg, priority), (h.4.0, out, h.3, refl), h.4.1)
    evicts msg priority (Err (TrySendError.Closed held)) h = same h.2
    evicts msg priority (Err (TrySendError.Full held)) h = sends ((msg, priority) ∷ []) (Err (TrySendError.Full (held ∷ []))) h.1
    evicts msg priority (Err (TrySendError.Memory held)) (inl h) = sends ((msg, priority) ∷ []) (Err (TrySendError.Memory (held ∷ []))) h
    evicts msg priority (Err (TrySendError.Memory held)) (inr h) = same h.4

    clones : (side : Side) (count : ℕ) (done : Bool) → Clones cmp old left does side count done → Made closes marks unlists nothing
    clones side count true h = (Change.Counts side (count + 1), (λ none. absurd (omega (arith, none)), refl), h.1)
    clones side count false h = same h.1

  last : (count : ℕ) → 0 < count → count - 1 ≡ 0 → count ≡ 1
  last count some none = omega (arith, some, none)

  pub makes : (made : Calls T P W) (reply : Answers T P) → Says cmp old left does made reply
      → Made (Closes old made) (made ≡ Call.CloseWhenDone) (IsDirect made → ⊥) (account made reply)
  makes (Call.TrySend msg priority) (Answer.TrySend reply) h = sends ((msg, priority) ∷ []) (as_list reply) h
  makes (Call.TrySendv pairs) (Answer.TrySendv reply) h = sends pairs reply h
  makes (Call.TrySendEvicting msg priority) (Answer.TrySendEvicting reply) h = evicts msg priority reply h
  makes Call.TryRecv (Answer.TryRecv reply) h = receives reply h
  makes Call.TryLease (Answer.TryLease (Ok pair)) h = (Change.Lends left, (pair, inl (h.0, refl)), h.1)
  makes Call.TryLease (Answer.TryLease (Err TryRecvManyError.Closed)) h = same h.2
  makes Call.TryLease (Answer.TryLease (Err TryRecvManyError.Empty)) h = same h.2
  makes Call.TryLease (Answer.TryLease (Err TryRecvManyError.Memory)) h = same h.2
  makes (Call.TakeWhere place) (Answer.TakeWhere (Some pair)) h = (Change.GoesOut left, (pair, inr (h.0, refl)), h.2)
  makes (Call.TakeWhere place) (Answer.TakeWhere None) h = same h.1
  makes (Call.LeaseWhere place) (Answer.LeaseWhere (Ok (Some pair))) h = (Change.Lends left, (pair, inr (h.0, refl)), h.2)
  makes (Call.LeaseWhere place) (Answer.LeaseWhere (Ok None)) h = same h.2
  makes (Call.LeaseWhere place) (Answer.LeaseWhere (Err TryRecvManyError.Closed)) h = same h.2
  makes (Call.LeaseWhere place) (Answer.LeaseWhere (Err TryRecvManyError.Empty)) h = same h.2
  makes (Call.LeaseWhere place) (Answer.LeaseWhere (Err TryRecvManyError.Memory)) h = same h.2
  makes (Call.ChangePriority place priority) (Answer.ChangePriority (Ok was)) h = (Change.Reprices left, (was, priority, h.0, refl), h.2)
  makes (Call.ChangePriority place priority) (Answer.ChangePriority (Err back)) h = same h.2
  makes Call.TryReserve (Answer.TryReserve (Ok none)) h = (Change.Holds, refl, h.2)
  makes Call.TryReserve (Answer.TryReserve (Err (TrySendError.Closed none))) h = same h.1
  makes Call.TryReserve (Answer.TryReserve (Err (TrySendError.Full none))) h = same h.2
  makes Call.TryReserve (Answer.TryReserve (Err (TrySendError.Memory none))) h = same h.2
  makes (Call.Put msg priority) (Answer.Put (Ok none)) h = (Change.Fills (msg, priority), (h.0, refl), h.1)
  makes (Call.Put msg priority) (Answer.Put (Err back)) h = same h.2
  makes Call.Free (Answer.Free true) h = (Change.Frees, (h.0, refl), h.1)
  makes Call.Free (Answer.Free false) h = same h.1
  makes Call.Close (Answer.Close true) h = (Change.Shuts, (tt, refl), h.1)
  makes Call.Close (Answer.Close false) h = same h.1
  makes Call.CloseWhenDone Answer.CloseWhenDone h = (Change.Marks, (refl, refl), h)
  makes Call.CloneSender (Answer.CloneSender reply) h = clones _ _ reply h
  makes Call.CloneReceiver (Answer.CloneReceiver reply) h = clones _ _ reply h
  makes Call.DropSender Answer.DropSender h = (Change.Counts Room (old.sender_count - 1), (last _ h.0, refl), h.1)
  makes Call.DropReceiver Answer.DropReceiver h = (Change.Counts Message (old.receiver_count - 1), (last _ h.0, refl), h.1)
  makes (Call.GiveUp ticket) Answer.GiveUp h = (Change.Unlists ticket, (λ d. d, refl), h)
  makes Call.IsClosed (Answer.IsClosed told) h = same h.1
  makes Call.IsEmpty (Answer.IsEmpty told) h = same h.1
  makes Call.IsFull (Answer.IsFull told) h = same h.1
  makes Call.Len (Answer.Len told) h = same h.1
  makes Call.Held (Answer.Held told) h = same h.1
  makes Call.Capacity (Answer.Capacity told) h = same h.1
  makes Call.SenderCount (Answer.SenderCount told) h = same h.1
  makes Call.ReceiverCount (Answer.ReceiverCount told) h = same h.1
  makes made reply h = absurd h

-- a poll accepts the pairs that its try accepts
pub poll_sent-is : {A : Type 0} (pairs : List A) (reply : SendReply (List A)) (listed : Option ℕ)
    (poll : SendPoll (List A)) → send_answer reply listed ≡ Some poll → poll_sent pairs poll ≡ sent pairs reply
poll_sent-is pairs = send_answers (λ reply listed poll. poll_sent pairs poll ≡ sent pairs reply) (λ done. refl) (λ rest. refl) (λ rest. refl) (λ rest. refl) (λ rest ticket. refl)

pub accepted_one-is : {T P W : Type 0} (msg : T) (priority : P) (given : Option ℕ) (waker : W) (reply : SendReply (T × P)) (listed : Option ℕ)
    (poll : SendPoll (T × P)) → send_answer reply listed ≡ Some poll
    → accepted_by (Call.PollSend msg priority given waker) (Answer.PollSend poll) ≡ sent ((msg, priority) ∷ []) (as_list reply)
accepted_one-is msg priority given waker =
    send_answers (λ reply listed poll. accepted_by (Call.PollSend msg priority given waker) (Answer.PollSend poll) ≡ sent ((msg, priority) ∷ []) (as_list reply))
    (λ done. refl) (λ rest. refl) (λ rest. refl) (λ rest. refl) (λ rest ticket. refl)

poll_received-is : {T P : Type 0} (reply : RecvReply (T × P)) (listed : Option ℕ) (poll : RecvPoll (T × P))
    → recv_answer reply listed ≡ Some poll → received_by {T = T} {P = P} (Answer.PollRecv poll) ≡ received_by (Answer.TryRecv reply)
poll_received-is reply listed poll h = grind arith

-- a step makes a change, and a poll then lists or unlists its caller
module _ {T P W : Type 0} (cmp : P → P → Ordering) (is_clone : W → W → Type 0) where
  pub record Changed (old : State T P W) (made : Calls T P W) (a : Account T P) (handed : Handed W) (new : State T P W) : Type 0 where
    pub by : Change T P
    pub mid : State T P W
    pub fits : Fits cmp old (Closes old made) (made ≡ Call.CloseWhenDone) (IsDirect made → ⊥) a by
    pub does : Does old handed mid by
    pub rests : new ≡ record mid { waiters = new.waiters }
    pub direct : IsDirect made → new ≡ mid

  abbrev Shows : State T P W → Calls T P W → Answers T P → Handed W → State T P W → Type 0
  Shows old made reply handed new = Changed old made (account made reply) handed new

  module _ (old new : State T P W) (handed : Handed W) where
    at_once : (made : Calls T P W) (reply : Answers T P) → Says cmp old new.pending (Does old handed new) made reply → Shows old made reply handed new
    at_once made reply h =
        let m = makes cmp old new.pending (Does old handed new) made reply h in
        record { by = m.0; mid = new; fits = m.1; does = m.2; rests = refl; direct = λ d. refl }

    pub changed : (made : Calls T P W) (reply : Answers T P) → Moves cmp is_clone old made reply handed new → Shows old made reply handed new
    changed (Call.PollSend msg priority given waker) (Answer.PollSend poll) h =
        let m = sends cmp old h.mid.pending (Does old handed h.mid) ((msg, priority) ∷ []) (as_list h.reply) h.tried in
        rw (accepted_one-is msg priority given waker h.reply h.ticket poll h.answered)
        (record { by = m.0; mid = h.mid; fits = m.1; does = m.2; rests = h.ends.1; direct = λ d. absurd d })
    changed (Call.PollSendv pairs given waker) (Answer.PollSendv poll) h =
        let m = sends cmp old h.mid.pending (Does old handed h.mid) pairs h.reply h.tried in
        rw (poll_sent-is pairs h.reply h.ticket poll h.answered)
        (record { by = m.0; mid = h.mid; fits = m.1; does = m.2; rests = h.ends.1; direct = λ d. absurd d })
    changed (Call.PollRecv given waker) (Answer.PollRecv poll) h =
        let m = receives cmp old h.mid.pending (Does old handed h.mid) h.reply h.tried in
        rw (poll_received-is h.reply h.ticket poll h.answered)
        (record { by = m.0; mid = h.mid; fits = m.1; does = m.2; rests = h.ends.1; direct = λ d. absurd d })
    changed made reply h = at_once made reply h
