-- Futures: the task of each, and how far it has come.
use Rattle.std.specs.Prelude.{◌≡◌, ℕ, List, Option, Some, None}
use Rattle.priority_channel_core.specs.Prelude.{State, nobody, Step, Ordering}
use Rattle.priority_channel_core.specs.declared.calls.Call.{Call}
use Rattle.priority_channel_core.specs.declared.calls.Answer.{Answer}
use Rattle.priority_channel_core.specs.declared.calls.CorePoll.TheVariants.{Pending}
use Rattle.priority_channel_core.specs.declared.calls.Call.TheVariants.{PollSend, PollSendv, PollRecv, GiveUp}
use Rattle.priority_channel_core.specs.declared.calls.Answer.TheVariants as answer

-- `M` holds the pairs of a bulk send
pub data Task (T P M : Type 0) : Type 0 where
  Send : T → P → Task T P M
  Sendv : M → Task T P M
  Recv : Task T P M

-- with the ticket and the waker of the last poll
pub data Standing (W : Type 0) : Type 0 where
  New : Standing W
  Waiting : ℕ → W → Standing W
  Called : ℕ → W → Standing W
  Done : Standing W

pub record Future (T P W M : Type 0) : Type 0 where
  pub task : Task T P M
  pub standing : Standing W

abbrev pub Tasks : (T P : Type 0) → Type 0
Tasks T P = Task T P (List (T × P))

abbrev pub Futures : (T P W : Type 0) → Type 0
Futures T P W = Future T P W (List (T × P))

abbrev pub ticket_of : {W : Type 0} → Standing W → Option ℕ
ticket_of (Waiting ticket waker) = Some ticket
ticket_of (Called ticket waker) = Some ticket
ticket_of standing = None

module _ {T P W M F : Type 0} where
  abbrev pub poll_of : Task T P M → Option ℕ → W → Call T P W M F
  poll_of (Send msg priority) given waker = PollSend msg priority given waker
  poll_of (Sendv msgs) given waker = PollSendv msgs given waker
  poll_of Recv given waker = PollRecv given waker

module _ {T P W M : Type 0} where
  -- waiting with what was not sent, or done
  abbrev pub future_after : Task T P M → W → Answer T P M → Future T P W M
  future_after task waker (answer.PollSend (Pending pair ticket)) =
      record { task = Send pair.0 pair.1; standing = Waiting ticket waker }
  future_after task waker (answer.PollSendv (Pending rest ticket)) =
      record { task = Sendv rest; standing = Waiting ticket waker }
  future_after task waker (answer.PollRecv (Pending kept ticket)) =
      record { task = Recv; standing = Waiting ticket waker }
  future_after task waker _ = record { task = task; standing = Done }

module _ {T P W : Type 0} (cmp : P → P → Ordering) (is_clone : W → W → Type 0) where
  abbrev pub GivesUpTicket : State T P W → Option ℕ → State T P W → Type 0
  GivesUpTicket old None new = new ≡ old
  GivesUpTicket old (Some ticket) new =
      Step cmp is_clone old (GiveUp ticket) answer.GiveUp nobody new
