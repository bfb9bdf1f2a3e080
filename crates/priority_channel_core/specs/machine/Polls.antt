-- A poll: a try, and a listing if it was full or empty.
use Rattle.std.specs.Prelude.{◌≡◌, ℕ, Option, Some, None, Ok, Err}
use Rattle.priority_channel_core.specs.Types.{Ready, Pending, Closed, Full, Side, SendReply, RecvReply, SendPoll, RecvPoll, TryRecvError, SendFault, RecvFault}
use Rattle.priority_channel_core.specs.Errors.{rest_of}
use Rattle.priority_channel_core.specs.Waiters.{Enlists}
use Rattle.priority_channel_core.specs.machine.State.{State, Handed}

-- Full waits, unless its listing was refused
abbrev pub send_answer : {K : Type 0} → SendReply K → Option ℕ → Option (SendPoll K)
send_answer (Err (Full rest)) (Some ticket) = Some (Pending rest ticket)
send_answer (Err (Closed rest)) None = Some (Ready (Err (SendFault.Closed (record { 0 = rest }))))
send_answer (Err error) None = Some (Ready (Err (SendFault.Memory (rest_of error))))
send_answer (Ok done) None = Some (Ready (Ok done))
send_answer reply (Some ticket) = None

abbrev pub recv_answer : {A : Type 0} → RecvReply A → Option ℕ → Option (RecvPoll A)
recv_answer (Err TryRecvError.Empty) (Some ticket) = Some (Pending tt ticket)
recv_answer (Err TryRecvError.Empty) None = Some (Ready (Err RecvFault.Memory))
recv_answer (Err TryRecvError.Closed) None = Some (Ready (Err (RecvFault.Closed (record {}))))
recv_answer (Ok pair) None = Some (Ready (Ok pair))
recv_answer reply (Some ticket) = None

module _ {T P W : Type 0} (is_clone : W → W → Type 0) where
  abbrev pub Ends : Side → Option ℕ → W → Option ℕ → State T P W → State T P W → Type 0
  Ends side given waker ticket old new =
      Enlists is_clone side given waker ticket old.waiters new.waiters
      × (new ≡ record old { waiters = new.waiters })

  pub record Polls {R A : Type 0} (tries : R → Handed W → State T P W → Type 0)
      (answer_by : R → Option ℕ → Option A) (side : Side) (given : Option ℕ) (waker : W)
      (answer : A) (handed : Handed W) (new : State T P W) : Type 0 where
    pub reply : R
    pub ticket : Option ℕ
    pub mid : State T P W
    pub tried : tries reply handed mid
    pub answered : answer_by reply ticket ≡ Some answer
    pub ends : Ends side given waker ticket mid new
