-- Runs that are the same, except for the clones of wakers.
use Rattle.std.specs.Prelude.{◌≡◌, ℕ, ◌⊎◌, Bool, true, false, length, Err}
use Rattle.std.specs.List.{AllZip}
use Rattle.priority_channel_core.specs.declared.calls.Answer.TheVariants.{TrySend, TrySendv, TrySendEvicting, PollSend, PollSendv, PollRecv, TryReserve, TryLease, LeaseWhere}
use Rattle.priority_channel_core.specs.Prelude.{Waiters, State, Handed, Answers, Operation, TrySendError, SendFault, RecvFault, TryRecvManyError, Ready}
use Rattle.priority_channel_core.specs.laws.Accepted.{accepted_by}

abbrev pub is_memory : {T P : Type 0} → Answers T P → Bool
is_memory (TrySend (Err (TrySendError.Memory pair))) = true
is_memory (TrySendv (Err (TrySendError.Memory rest))) = true
is_memory (TrySendEvicting (Err (TrySendError.Memory pair))) = true
is_memory (PollSend (Ready (Err (SendFault.Memory pair)))) = true
is_memory (PollSendv (Ready (Err (SendFault.Memory rest)))) = true
is_memory (PollRecv (Ready (Err RecvFault.Memory))) = true
is_memory (TryReserve (Err (TrySendError.Memory none))) = true
is_memory (TryLease (Err TryRecvManyError.Memory)) = true
is_memory (LeaseWhere (Err TryRecvManyError.Memory)) = true
is_memory _ = false

pub record IsAlike {T P W : Type 0} (one other : Operation T P W) : Type 0 where
  pub same_call : other.call ≡ one.call
  pub as_many : length (accepted_by other.call other.answer)
      ≡ length (accepted_by one.call one.answer)
  pub memory : is_memory other.answer ≡ is_memory one.answer

module _ {W : Type 0} (is_clone : W → W → Type 0) where
  -- with the same waker, or another clone of one waker
  abbrev pub SameWaiter : ℕ × W → ℕ × W → Type 0
  SameWaiter a b =
      (b.0 ≡ a.0) × ((b.1 ≡ a.1) ⊎ ((waker : W) × is_clone waker a.1 × is_clone waker b.1))

  pub record SameHanded (one other : Handed W) : Type 0 where
    pub room : AllZip SameWaiter one.room other.room
    pub message : AllZip SameWaiter one.message other.message

  pub record SameWaiters (one other : Waiters W) : Type 0 where
    pub room : AllZip SameWaiter one.room other.room
    pub message : AllZip SameWaiter one.message other.message
    pub next_ticket : other.next_ticket ≡ one.next_ticket

  pub record SameState {T P : Type 0} (one other : State T P W) : Type 0 where
    pub waiters : SameWaiters one.waiters other.waiters
    pub others : other ≡ record one { waiters = other.waiters }

  pub record SameOutcome {T P : Type 0} (one other : Operation T P W) : Type 0 where
    pub answer : other.answer ≡ one.answer
    pub handed : SameHanded one.handed other.handed
