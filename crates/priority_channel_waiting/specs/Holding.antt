-- What the code keeps of a future between its polls.
use Rattle.std.specs.Prelude.{◌≡◌, ℕ, Option, Some, None, Ok, Err, IfSome, option_map}
use Rattle.futures.specs.declared.task.Poll.{Poll}
use Rattle.futures.specs.declared.task.Poll.TheVariants as poll
use Rattle.priority_channel_core.specs.declared.calls.CorePoll.{CorePoll}
use Rattle.priority_channel_core.specs.declared.calls.CorePoll.TheVariants.{Ready, Pending}
use Rattle.priority_channel_core.specs.Prelude.{unsent, SendEnd}
pub use Rattle.priority_channel_calls.specs.Tails.{HoldsTail}
use Rattle.priority_channel_waiting.specs.Future.{Task, Tasks, Standing, Future, ticket_of}
use Rattle.priority_channel_waiting.specs.Future.Standing.{Done}
use Rattle.priority_channel_waiting.specs.Future.Task.{Send, Recv}

-- its remaining work (None once done) and its ticket
pub record Holding (K : Type 0) : Type 0 where
  pub kept : Option K
  pub ticket : Option ℕ

module _ {K : Type 0} where
  abbrev pub unpolled : K → Holding K
  unpolled kept = record { kept = Some kept; ticket = None }

  abbrev pub done : Holding K
  done = record { kept = None; ticket = None }

  -- the result of a poll, and the state after it
  abbrev pub told_by : {R : Type 0} → CorePoll R K → Poll R
  told_by (Ready answer) = poll.Ready answer
  told_by (Pending kept ticket) = poll.Pending

  abbrev pub left_by : {R : Type 0} → CorePoll R K → Holding K
  left_by (Ready answer) = done
  left_by (Pending kept ticket) = record { kept = Some kept; ticket = Some ticket }

  -- what the answer of a send gives back
  abbrev pub unsent_of : SendEnd K → Option K
  unsent_of (Ok sent) = None
  unsent_of (Err fault) = Some (unsent fault)

  module _ {R : Type 0} (back : R → Option K) where
    -- what is kept or comes back after a poll
    abbrev pub left_after : CorePoll R K → Option K
    left_after (Ready answer) = back answer
    left_after (Pending rest ticket) = Some rest

-- what is kept or comes back is left of what a future kept before, and may be polled
abbrev pub IsRestOf : {K : Type 0} → (K → Type 0) → (K → K → Type 0) → Holding K → Option K → Type 0
IsRestOf can leaves before left =
    IfSome before.kept (λ kept. IfSome left (λ rest. can rest × leaves kept rest))

module _ {T P : Type 0} where
  -- the tasks of a send and of a receive, from what they keep
  abbrev pub send_of : T × P → Tasks T P
  send_of pair = Send pair.0 pair.1

  abbrev pub recv_of : Unit {0} → Tasks T P
  recv_of kept = Recv

abbrev pub task_left : {T P W M : Type 0} → Task T P M → Standing W → Option (Task T P M)
task_left task Done = None
task_left task standing = Some task

-- `holding` is the state of the future; `task_of` gives its remaining task
pub record IsKeptOf {T P W M K : Type 0} (task_of : K → Task T P M) (holding : Holding K)
    (future : Future T P W M) : Type 0 where
  pub task : option_map task_of holding.kept ≡ task_left future.task future.standing
  pub ticket : holding.ticket ≡ ticket_of future.standing

-- This poll of a future returns what one of the core answers, and keeps what that leaves.
abbrev pub PollsKept : {C H K R W : Type 0}
    → (K → Option ℕ → W → C → CorePoll R K → H → C → Type 0)
    → Holding K → W → C → Poll R × H → C → Holding K → Type 0
PollsKept {C} {H} {K} {R} polls before waker old result new after =
    IfSome before.kept (λ kept. (reply : CorePoll R K)
    × polls kept before.ticket waker old reply result.1 new
    × (result.0 ≡ told_by reply) × (after ≡ left_by reply))
