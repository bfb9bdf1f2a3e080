-- What each kind of future does at a poll.
use Rattle.std.specs.Prelude.{◌*◌, ℕ, List, length, Option}
use Rattle.priority_channel_core.specs.bag.Prelude.{digits}
use Rattle.priority_channel_core.specs.declared.calls.Call.{Call}
use Rattle.priority_channel_core.specs.declared.calls.Answer.{Answer}
use Rattle.priority_channel_core.specs.declared.calls.CorePoll.{CorePoll}
use Rattle.priority_channel_core.specs.declared.calls.Answer.TheVariants as answer
use Rattle.priority_channel_waiting.specs.Future.Task.{Sendv}
use Rattle.priority_channel_core.specs.Prelude.{State, CountedState, ComparesAtMost, search_bound, Handed, Step, Ordering, SendPoll, RecvPoll, IsGood, Performs, PollsFront}
use Rattle.priority_channel_waiting.specs.Future.{Task, poll_of, future_after}
use Rattle.priority_channel_waiting.specs.Holding.{left_by, send_of, recv_of, IsKeptOf}

module _ {T P W M F K R : Type 0}
    (Performs : State T P W → Call T P W M F → Answer T P M → Handed W → State T P W → Type 0)
    (task_of : K → Task T P M) (as_answer : CorePoll R K → Answer T P M) where
  -- the poll of a future's task, which leaves the state of the polled future
  pub record PollsTask (kept : K) (given : Option ℕ) (waker : W) (old : State T P W)
      (reply : CorePoll R K) (handed : Handed W) (new : State T P W) : Type 0 where
    pub step : Performs old (poll_of (task_of kept) given waker) (as_answer reply) handed new
    pub leaves : IsKeptOf task_of (left_by reply)
        (future_after (task_of kept) waker (as_answer reply))

module _ {T P W : Type 0} (cmp : P → P → Ordering) (is_clone : W → W → Type 0) where
  abbrev pub SendPolls : T × P → Option ℕ → W → CountedState T P W → SendPoll (T × P) → Handed W
      → CountedState T P W → Type 0
  SendPolls pair given waker old reply handed new =
      PollsTask (Step cmp is_clone) send_of (λ reply. answer.PollSend reply) pair given waker
      old.state reply handed new.state
      × ComparesAtMost (digits (length new.state.pending)) (search_bound old.state.waiters) old new

  abbrev pub RecvPolls : Unit {0} → Option ℕ → W → CountedState T P W → RecvPoll (T × P) → Handed W
      → CountedState T P W → Type 0
  RecvPolls kept given waker old reply handed new =
      PollsTask (Step cmp is_clone) recv_of (λ reply. answer.PollRecv reply) kept given waker
      old.state reply handed new.state
      × ComparesAtMost (2 * digits (length old.state.pending)) (search_bound old.state.waiters) old
      new

-- a bulk send; the prefix that it sends is told whether or not the iterator has one list
module _ {T P W M : Type 0} (holds : M → List (T × P) → Type 0) (cmp : P → P → Ordering)
    (is_clone : W → W → Type 0) where
  pub record SendvPolls (msgs : M) (given : Option ℕ) (waker : W) (old : CountedState T P W)
      (reply : SendPoll M) (handed : Handed W) (new : CountedState T P W) : Type 0 where
    pub polls : PollsTask (Performs holds cmp is_clone) (λ rest. Sendv rest)
        (λ reply. answer.PollSendv reply) msgs given waker old.state reply handed new.state
    pub front : (front : List (T × P))
        × PollsFront is_clone old.state given waker front handed new.state
        × ComparesAtMost (length front * digits (length new.state.pending))
        (search_bound old.state.waiters) old new
    pub good : IsGood new.state
