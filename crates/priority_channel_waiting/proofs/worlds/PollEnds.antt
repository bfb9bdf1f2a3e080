-- Each poll wakes some waiters, and then ends its future or leaves it waiting.
use Rattle.std.proofs.Common.{◌≡◌, ◌≢◌, ℕ, ◌<◌, ◌⊎◌, List, refl, ap, ◌∙◌, inl, inr, Option, None, Some, All}
use Rattle.std.proofs.lemmas.List.Elements.{All-nil}
use Rattle.priority_channel_core.specs.declared.calls.Call.TheVariants as call
use Rattle.priority_channel_core.specs.declared.calls.Answer.TheVariants as answer
use Rattle.priority_channel_core.specs.declared.calls.CorePoll.TheVariants.{Ready, Pending}
use Rattle.priority_channel_core.specs.declared.side.Side.{Side}
use Rattle.priority_channel_core.specs.declared.side.Side.TheVariants.{Room, Message}
use Rattle.priority_channel_core.specs.Prelude.{Listing, listing, without_given, Waiters, on_side, unlist, enlist, State, Handed, IsGood, Ends, Moves, Answers, waits_under, Ordering, SendPoll, RecvPoll}
use Rattle.priority_channel_waiting.specs.Future.{Tasks, Futures, poll_of, future_after}
use Rattle.priority_channel_waiting.specs.Future.Standing.{Waiting, Done}
use Rattle.priority_channel_waiting.specs.Future.Task.{Send, Sendv, Recv}
use Rattle.priority_channel_core.proofs.Polls.{send_waits_under, recv_waits_under}
use Rattle.priority_channel_waiting.specs.laws.WaitingLaw.{side_of}
use Rattle.priority_channel_core.proofs.runs.Hands.{handed_of, StaysOrLeaves, Hands, hands}

module _ {W : Type 0} where
  -- a listed waiter is on its own side
  pub enlisted_mine : (side : Side) (listed : Listing W) (w : Waiters W) → (on_side side (enlist side listed w) ≡ listed.waiters) × ((enlist side listed w).next_ticket ≡ listed.next_ticket)
  enlisted_mine Room listed w = (refl, refl)
  enlisted_mine Message listed w = (refl, refl)

  enlisted_others : (side other : Side) (listed : Listing W) (w : Waiters W) → other ≢ side → on_side other (enlist side listed w) ≡ on_side other w
  enlisted_others Room Message listed w ne = refl
  enlisted_others Message Room listed w ne = refl
  enlisted_others side other listed w ne = absurd (ne refl)

  pub unlist_side : (given : Option ℕ) (side : Side) (w : Waiters W) → on_side side (unlist given w) ≡ without_given given (on_side side w)
  unlist_side given Room w = refl
  unlist_side given Message w = refl

module _ {T P W : Type 0} where
  abbrev pub lists_of : State T P W → Side → List (ℕ × W)
  lists_of s side = on_side side s.waiters

  pub stays_or_leaves : (old new : State T P W) (handed : Handed W) → Hands old new handed → (side : Side) → StaysOrLeaves (lists_of old side) (handed_of side handed) (lists_of new side)
  stays_or_leaves old new handed h Room = h.room
  stays_or_leaves old new handed h Message = h.message

  pub tickets_given : (s : State T P W) → IsGood s → (side : Side) → All (λ a. a.0 < s.waiters.next_ticket) (lists_of s side)
  tickets_given s good Room = good.tickets.room_given
  tickets_given s good Message = good.tickets.message_given

  -- the tickets of a list that stayed, or is empty, were given
  pub still_given : (old new : State T P W) (handed : Handed W) → Hands old new handed → IsGood old → (side : Side) → All (λ a. a.0 < new.waiters.next_ticket) (lists_of new side)
  still_given old new handed h good side =
      let given = tickets_given old good side in
      elim (stays_or_leaves old new handed h side) [
        | inl s ↦ rw (s.0, h.next) given
        | inr s ↦ rw s.0 (All-nil (λ (a : ℕ × W). a.0 < new.waiters.next_ticket))
      ]

  -- a poll that ends its future
  pub record Ended (old : State T P W) (given : Option ℕ) (future : Futures T P W) (handed : Handed W) (new : State T P W) : Type 0 where
    pub mid : State T P W
    pub handing : Hands old mid handed
    pub left : new.waiters ≡ unlist given mid.waiters
    pub done : future.standing ≡ Done

  -- a poll that leaves its future waiting
  pub record Waits (is_clone : W → W → Type 0) (old : State T P W) (given : Option ℕ) (waker : W) (side : Side) (future : Futures T P W) (handed : Handed W) (new : State T P W) : Type 0 where
    pub mid : State T P W
    pub handing : Hands old mid handed
    pub kept : W
    pub clone : is_clone waker kept
    pub mine : lists_of new side ≡ (listing given kept (lists_of mid side) mid.waiters.next_ticket).waiters
    pub others : (other : Side) → other ≢ side → lists_of new other ≡ lists_of mid other
    pub nexts : new.waiters.next_ticket ≡ (listing given kept (lists_of mid side) mid.waiters.next_ticket).next_ticket
    pub goes_on : side_of future.task ≡ side
    pub stands : future.standing ≡ Waiting (listing given kept (lists_of mid side) mid.waiters.next_ticket).ticket waker

  abbrev Stands : Side → W → Option ℕ → Futures T P W → Type 0
  Stands side waker None future = future.standing ≡ Done
  Stands side waker (Some ticket) future = (side_of future.task ≡ side) × (future.standing ≡ Waiting ticket waker)

  ends : (is_clone : W → W → Type 0) (side : Side) (old mid new : State T P W) (given listed : Option ℕ) (waker : W) (future : Futures T P W) (handed : Handed W)
      → Hands old mid handed → Ends is_clone side given waker listed mid new → Stands side waker listed future
      → Ended old given future handed new ⊎ Waits is_clone old given waker side future handed new
  ends is_clone side old mid new given None waker future handed h e stands = inl (record { mid = mid; handing = h; left = e.0; done = stands })
  ends is_clone side old mid new given (Some ticket) waker future handed h e stands =
      let listed = listing given e.0.0 (lists_of mid side) mid.waiters.next_ticket in
      inr (record {
        mid = mid;
        handing = h;
        kept = e.0.0;
        clone = e.0.1;
        mine = ap (on_side side) e.0.2.1 ∙ (enlisted_mine side listed mid.waiters).0;
        others = λ other ne. ap (on_side other) e.0.2.1 ∙ enlisted_others side other listed mid.waiters ne;
        nexts = ap (λ (w : Waiters W). w.next_ticket) e.0.2.1 ∙ (enlisted_mine side listed mid.waiters).1;
        goes_on = stands.0;
        stands = stands.1 ∙ ap (λ (t : ℕ). Waiting t waker) e.0.2.0;
      })

  stands_send : (msg : T) (priority : P) (waker : W) (poll : SendPoll (T × P))
      → Stands Room waker (waits_under poll) (future_after (Send msg priority) waker (answer.PollSend poll))
  stands_send msg priority waker (Ready reply) = refl
  stands_send msg priority waker (Pending rest ticket) = (refl, refl)

  stands_sendv : (pairs : List (T × P)) (waker : W) (poll : SendPoll (List (T × P)))
      → Stands Room waker (waits_under poll) (future_after (Sendv pairs) waker (answer.PollSendv poll))
  stands_sendv pairs waker (Ready reply) = refl
  stands_sendv pairs waker (Pending rest ticket) = (refl, refl)

  stands_recv : (waker : W) (poll : RecvPoll (T × P))
      → Stands Message waker (waits_under poll) (future_after Recv waker (answer.PollRecv poll))
  stands_recv waker (Ready reply) = refl
  stands_recv waker (Pending kept ticket) = (refl, refl)

  module _ (cmp : P → P → Ordering) (is_clone : W → W → Type 0) (old new : State T P W) (handed : Handed W) (given : Option ℕ) (waker : W) where
    pub poll_end : (task : Tasks T P) (reply : Answers T P) → Moves cmp is_clone old (poll_of task given waker) reply handed new
        → Ended old given (future_after task waker reply) handed new ⊎ Waits is_clone old given waker (side_of task) (future_after task waker reply) handed new
    poll_end (Send m p) (answer.PollSend poll) h =
        ends is_clone Room old h.mid new given h.ticket waker _ handed (hands old h.mid handed cmp is_clone (call.TrySend m p) (answer.TrySend h.reply) tt h.tried) h.ends
        (rw (send_waits_under h.reply h.ticket poll h.answered) (stands_send m p waker poll))
    poll_end (Sendv pairs) (answer.PollSendv poll) h =
        ends is_clone Room old h.mid new given h.ticket waker _ handed (hands old h.mid handed cmp is_clone (call.TrySendv pairs) (answer.TrySendv h.reply) tt h.tried) h.ends
        (rw (send_waits_under h.reply h.ticket poll h.answered) (stands_sendv pairs waker poll))
    poll_end Recv (answer.PollRecv poll) h =
        ends is_clone Message old h.mid new given h.ticket waker _ handed (hands old h.mid handed cmp is_clone call.TryRecv (answer.TryRecv h.reply) tt h.tried) h.ends
        (rw (recv_waits_under h.reply h.ticket poll h.answered) (stands_recv waker poll))
    poll_end task reply h = absurd h
