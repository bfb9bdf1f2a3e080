-- The calls that a wait makes, and how it ends.
use Rattle.std.specs.Prelude.{◌≡◌, ◌⊎◌, ⊤, ℕ, Bool, Option, Some, None, Result, Ok, Err, IfSome, IsSomeAnd}
use Rattle.std.specs.declared.convert.Infallible.{Infallible}
use Rattle.priority_channel_core.specs.declared.calls.Call.TheVariants as call
use Rattle.priority_channel_core.specs.declared.calls.Answer.TheVariants as answer
use Rattle.priority_channel_core.specs.declared.calls.CorePoll.{CorePoll}
use Rattle.priority_channel_core.specs.declared.calls.CorePoll.TheVariants.{Ready, Pending}
use Rattle.priority_channel_core.specs.declared.errors.RecvFault.TheVariants as recv_fault
use Rattle.priority_channel_core.specs.declared.errors.SendFault.TheVariants as send_fault
use Rattle.priority_channel_core.specs.declared.side.Side.{Side}
use Rattle.priority_channel_core.specs.declared.side.Side.TheVariants.{Room, Message}
use Rattle.priority_channel_core.specs.Prelude.{Handed, Ordering, RecvPoll, SendPoll}
use Rattle.priority_channel_calls.specs.Told.{Told}
use Rattle.priority_channel_calls.specs.Told.Told.{Exactly}
use Rattle.priority_channel_waiting.specs.declared.retry.Outcome.{Outcome}
use Rattle.priority_channel_waiting.specs.declared.retry.Outcome.TheVariants.{Done, Blocked, Closed, Memory}
use Rattle.priority_channel_waiting.specs.declared.timeouts.Ended.{Ended}
use Rattle.priority_channel_waiting.specs.Waits.{outcome_of_end}
use Rattle.priority_channel_witnessed.specs.Passes.{Carried, Tells}

-- A wait has ended, and its last call told this. Or this is left of the call, and is listed under
-- this ticket, if any.
pub data Ending (D L : Type 0) : Type 0 where
  ends : Outcome D L → Ending D L
  left : L → Option ℕ → Ending D L

-- a future: its pass and its call, until it has answered; its ticket, once listed; and the source
-- of its wakes
pub record Underway (S C : Type 0) : Type 0 where
  pub holds : Option (S × C)
  pub ticket : Option ℕ
  pub source : ℕ

-- of these two sources, the one that wakes the tasks that wait on this side
abbrev pub source_of : Side → ℕ → ℕ → ℕ
source_of Room room message = room
source_of Message room message = message

-- how a poll ends that answers so
abbrev pub polled_to : {D L O : Type 0} → CorePoll (Result D (Ended L O)) L → Ending D L
polled_to (Ready result) = ends (outcome_of_end result)
polled_to (Pending rest at) = left rest (Some at)

-- the same as a result, without a call
abbrev pub listed_as : {X L : Type 0} → CorePoll X L → Result X (L × ℕ)
listed_as (Ready answer) = Ok answer
listed_as (Pending rest at) = Err (rest, at)

-- what the core answers to a poll of a receive and of a send that ends so
abbrev pub recv_polled : {X : Type 0} → Ending X (Unit {0}) → RecvPoll X
recv_polled (ends (Done pair)) = Ready (Ok pair)
recv_polled (ends (Closed rest)) = Ready (Err (recv_fault.Closed (record {})))
recv_polled (left rest (Some at)) = Pending tt at
recv_polled ending = Ready (Err recv_fault.Memory)

abbrev pub send_polled : {K : Type 0} → Ending (Unit {0}) K → SendPoll K
send_polled (ends (Done done)) = Ready (Ok done)
send_polled (ends (Closed rest)) = Ready (Err (send_fault.Closed (record { 0 = rest })))
send_polled (ends (Memory rest)) = Ready (Err (send_fault.Memory rest))
send_polled (ends (Blocked rest)) = Ready (Err (send_fault.Memory rest))
send_polled (left rest (Some at)) = Pending rest at
send_polled (left rest None) = Ready (Err (send_fault.Memory rest))

-- A try ends the wait with what it told. After a blocked one the time may be over, memory for
-- waiting may be refused, or the wait goes on.
abbrev pub Tried : {D L : Type 0} → Outcome D L → Ending D L → Type 0
Tried {D} {L} told (ends end) =
    (told ≡ end) ⊎ ((rest : L) × (told ≡ Blocked rest) × (end ≡ Memory rest))
Tried told (left rest ticket) = (told ≡ Blocked rest) × (ticket ≡ None)

-- A poll answers, or lists: it is not blocked.
abbrev pub MayPoll : {D L : Type 0} → Ending D L → Type 0
MayPoll (ends (Blocked rest)) = ⊥
MayPoll (left rest None) = ⊥
MayPoll ending = ⊤

module _ {T P W C S D L : Type 0} (told : C → S → Told T P W) (says : S → Outcome D L)
    (polled : C → Option ℕ → W → Ending D L → Told T P W) where
  -- a call that a wait makes: a try while it is not listed, or a poll under its ticket
  pub data IsCall (own : C) (ticket : Option ℕ) (made : Told T P W) (ending : Ending D L)
      : Type 0 where
    tries : (reply : S) → made ≡ told own reply → ticket ≡ None → Tried (says reply) ending
        → IsCall own ticket made ending
    polls : (waker : W) → made ≡ polled own ticket waker ending → MayPoll ending
        → IsCall own ticket made ending

module _ {T P W : Type 0} (cmp : P → P → Ordering) (is_clone : W → W → Type 0) (capacity : ℕ)
    (is_reserved : Bool) {C D L : Type 0} (call_of : L → C)
    (is_call : C → Option ℕ → Told T P W → Ending D L → Type 0) where
  -- The calls of a wait: each takes up what the one before it left, and the last one ends it so.
  -- Only a wait that ends gives up its ticket.
  pub data ComesTo : Carried T P W → C → Option ℕ → Ending D L → Carried T P W → Type 0 where
    at_last : {old new : Carried T P W} {own : C} {ticket : Option ℕ} {ending : Ending D L}
        {made : Told T P W} {handed : Handed W}
        → Tells cmp is_clone capacity is_reserved old made handed new
        → is_call own ticket made ending
        → ComesTo old own ticket ending new
    before : {old mid new : Carried T P W} {own : C} {rest : L} {ticket listed : Option ℕ}
        {ending : Ending D L} {made : Told T P W} {handed : Handed W}
        → Tells cmp is_clone capacity is_reserved old made handed mid
        → is_call own ticket made (left rest listed)
        → ComesTo mid (call_of rest) listed ending new
        → ComesTo old own ticket ending new
    gave_up : {old mid new : Carried T P W} {own : C} {ticket : ℕ} {end : Outcome D L}
        {handed : Handed W}
        → Tells cmp is_clone capacity is_reserved old
        (Exactly (call.GiveUp ticket) answer.GiveUp) handed mid
        → ComesTo mid own None (ends end) new
        → ComesTo old own (Some ticket) (ends end) new

  -- what a future returns: its answer, and its pass
  abbrev pub Gives : Underway (Carried T P W) C
      → Result D (Ended L Infallible) × Carried T P W → Type 0
  Gives future given = IsSomeAnd future.holds
      (λ held. ComesTo held.0 held.1 future.ticket (ends (outcome_of_end given.0)) given.1)

  -- it is listed, with its pass and what is left of its call
  abbrev pub WaitsOn : Underway (Carried T P W) C → Underway (Carried T P W) C → Type 0
  WaitsOn old new = IfSome old.holds (λ before. IsSomeAnd new.holds (λ after. (rest : L)
      × (after.1 ≡ call_of rest)
      × IsSomeAnd new.ticket
      (λ at. ComesTo before.0 before.1 old.ticket (left rest (Some at)) after.0)))
