-- Two polls from states that are the same, with as many pairs accepted, where both or neither
-- answered Memory.
use Rattle.std.proofs.Common.{◌≡◌, ℕ, Bool, true, false, List, [], ◌∷◌, length, refl, sym, ap, ◌∙◌, is_some, arith, Option, Some, Err}
use Rattle.std.specs.Cmp.{IsTotalOrder}
use Rattle.priority_channel_core.specs.Prelude.{State, Handed, Does, as_list, send_answer, recv_answer, Ends, Polls, Moves, Ordering, SendReply, RecvReply, SendPoll, RecvPoll, Call, Answer, SendFault, Ready, Pending, Side}
use Rattle.priority_channel_core.specs.laws.Accepted.{poll_sent, accepted_by}
use Rattle.priority_channel_core.specs.laws.Alike.{is_memory, SameState}
use Rattle.priority_channel_core.proofs.runs.Changes.{poll_sent-is, accepted_one-is}
use Rattle.priority_channel_core.proofs.alike.Lists.{same_waiting, same_enlists}
use Rattle.priority_channel_core.proofs.alike.Calls.{sends_same, receives_same}
use Rattle.priority_channel_core.proofs.alike.Changes.{Both, does_same}
use Rattle.priority_channel_core.proofs.alike.Evicting.{as_list_one}

-- of two polls whose tries had the same reply, both wait or neither does, if both or neither
-- answered Memory
sends_wait_alike : {K : Type 0} (says : SendPoll K → Bool) → ((rest : K) → says (Ready (Err (SendFault.Memory rest))) ≡ true)
    → ((rest : K) (ticket : ℕ) → says (Pending rest ticket) ≡ false)
    → (reply : SendReply K) (t u : Option ℕ) (x y : SendPoll K)
    → send_answer reply t ≡ Some x → send_answer reply u ≡ Some y → says y ≡ says x → is_some u ≡ is_some t
sends_wait_alike says ready waits reply t u x y a b memory = grind arith

recvs_wait_alike : {T P : Type 0} (reply : RecvReply (T × P)) (t u : Option ℕ) (x y : RecvPoll (T × P))
    → recv_answer reply t ≡ Some x → recv_answer reply u ≡ Some y
    → is_memory {T = T} {P = P} (Answer.PollRecv y) ≡ is_memory {T = T} {P = P} (Answer.PollRecv x) → is_some u ≡ is_some t
recvs_wait_alike reply t u x y a b memory = grind arith

module _ {T P W : Type 0} (is_clone : W → W → Type 0) {cmp : P → P → Ordering} (o : IsTotalOrder cmp) (s r k k' : State T P W) (h h' : Handed W) (same : SameState is_clone s r) where
  ends_same : (side : Side) (given t u : Option ℕ) (waker : W) (m m' : State T P W) → Both is_clone h h' m m' → is_some u ≡ is_some t
      → Ends is_clone side given waker t m k → Ends is_clone side given waker u m' k' → (u ≡ t) × Both is_clone h h' k k'
  ends_same side given t u waker m m' both alike a b =
      let listed = same_enlists is_clone side given t u waker m.waiters k.waiters m'.waiters k'.waiters both.state.waiters alike a.0 b.0 in
      (listed.0, record { handed = both.handed; state = same_waiting is_clone k k' m m' a.1 b.1 both.state listed.1 })

  polls_same : {R A : Type 0} {tries others : R → Handed W → State T P W → Type 0} {answer_by : R → Option ℕ → Option A} {side : Side} {given : Option ℕ}
      {waker : W} {x y : A} (a : Polls is_clone tries answer_by side given waker x h k) (b : Polls is_clone others answer_by side given waker y h' k')
      → b.reply ≡ a.reply → Both is_clone h h' a.mid b.mid
      → (answer_by a.reply a.ticket ≡ Some x → answer_by a.reply b.ticket ≡ Some y → is_some b.ticket ≡ is_some a.ticket)
      → (y ≡ x) × Both is_clone h h' k k'
  polls_same {answer_by = answer_by} {side = side} {given = given} {waker = waker} {x = x} {y = y} a b replies both alike =
      let answered : answer_by a.reply b.ticket ≡ Some y = rw replies at b.answered in
      let ended = ends_same side given a.ticket b.ticket waker a.mid b.mid both (alike a.answered answered) a.ends b.ends in
      let answers : Some y ≡ Some x = sym answered ∙ (ap (answer_by a.reply) ended.0 ∙ a.answered) in
      (cc, ended.1)

  pub polls_send_same : (msg : T) (priority : P) (given : Option ℕ) (waker : W) (x y : SendPoll (T × P))
      → Moves cmp is_clone s (Call.PollSend msg priority given waker) (Answer.PollSend x) h k
      → Moves cmp is_clone r (Call.PollSend msg priority given waker) (Answer.PollSend y) h' k'
      → length (accepted_by (Call.PollSend msg priority given waker) (Answer.PollSend y)) ≡ length (accepted_by (Call.PollSend msg priority given waker) (Answer.PollSend x))
      → is_memory {T = T} {P = P} (Answer.PollSend y) ≡ is_memory {T = T} {P = P} (Answer.PollSend x) → (y ≡ x) × Both is_clone h h' k k'
  polls_send_same msg priority given waker x y a b count memory =
      let mine = ap length (accepted_one-is msg priority given waker a.reply a.ticket x a.answered) in
      let other = ap length (accepted_one-is msg priority given waker b.reply b.ticket y b.answered) in
      let tries = sends_same is_clone same o a.mid.pending b.mid.pending (Does s h a.mid) (Does r h' b.mid) ((msg, priority) ∷ []) (as_list a.reply) (as_list b.reply) a.tried b.tried (sym other ∙ (count ∙ mine)) in
      polls_same a b (as_list_one a.reply b.reply tries.0) (does_same is_clone s r same a.mid b.mid h h' tries.1.0 tries.1.1 tries.1.2) (λ p q. sends_wait_alike (λ z. is_memory {T = T} {P = P} (Answer.PollSend z)) (λ rest. refl) (λ rest ticket. refl) a.reply a.ticket b.ticket x y p q memory)

  pub polls_sendv_same : (pairs : List (T × P)) (given : Option ℕ) (waker : W) (x y : SendPoll (List (T × P)))
      → Moves cmp is_clone s (Call.PollSendv pairs given waker) (Answer.PollSendv x) h k
      → Moves cmp is_clone r (Call.PollSendv pairs given waker) (Answer.PollSendv y) h' k'
      → length (poll_sent pairs y) ≡ length (poll_sent pairs x) → is_memory {T = T} {P = P} (Answer.PollSendv y) ≡ is_memory {T = T} {P = P} (Answer.PollSendv x) → (y ≡ x) × Both is_clone h h' k k'
  polls_sendv_same pairs given waker x y a b count memory =
      let mine = ap length (poll_sent-is pairs a.reply a.ticket x a.answered) in
      let other = ap length (poll_sent-is pairs b.reply b.ticket y b.answered) in
      let tries = sends_same is_clone same o a.mid.pending b.mid.pending (Does s h a.mid) (Does r h' b.mid) pairs a.reply b.reply a.tried b.tried (sym other ∙ (count ∙ mine)) in
      polls_same a b tries.0 (does_same is_clone s r same a.mid b.mid h h' tries.1.0 tries.1.1 tries.1.2) (λ p q. sends_wait_alike (λ z. is_memory {T = T} {P = P} (Answer.PollSendv z)) (λ rest. refl) (λ rest ticket. refl) a.reply a.ticket b.ticket x y p q memory)

  pub polls_receive_same : (given : Option ℕ) (waker : W) (x y : RecvPoll (T × P))
      → Moves cmp is_clone s (Call.PollRecv given waker) (Answer.PollRecv x) h k
      → Moves cmp is_clone r (Call.PollRecv given waker) (Answer.PollRecv y) h' k'
      → is_memory {T = T} {P = P} (Answer.PollRecv y) ≡ is_memory {T = T} {P = P} (Answer.PollRecv x) → (y ≡ x) × Both is_clone h h' k k'
  polls_receive_same given waker x y a b memory =
      let tries = receives_same is_clone same o a.mid.pending b.mid.pending (Does s h a.mid) (Does r h' b.mid) a.reply b.reply a.tried b.tried in
      polls_same a b tries.0 (does_same is_clone s r same a.mid b.mid h h' tries.1.0 tries.1.1 tries.1.2) (λ p q. recvs_wait_alike a.reply a.ticket b.ticket x y p q memory)
