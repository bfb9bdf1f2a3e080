-- Histories of calls: for each, the number of its pass, the call, and the reply.
use Rattle.std.specs.Prelude.{◌≡◌, ℕ, true, List, [], Option, Some, None, refl}
use Rattle.std.specs.List.{AllZip}
use Rattle.priority_channel_core.specs.declared.calls.Call.TheVariants as call
use Rattle.priority_channel_core.specs.declared.calls.Answer.TheVariants as answer
use Rattle.priority_channel_core.specs.Prelude.{State, Handed, opening, Step, Calls, Answers, Operation, Run, Ordering}
use Rattle.priority_channel_recorded.specs.declared.book.Call.{Call}
use Rattle.priority_channel_recorded.specs.declared.book.Call.TheVariants.{TrySend, TrySendEvicting, TryRecv, Close, IsClosed, IsEmpty, IsFull, Len}
use Rattle.priority_channel_recorded.specs.declared.book.Reply.{Reply}
use Rattle.priority_channel_recorded.specs.declared.book.Reply.TheVariants.{Sent, Displaced, Received, Bool as Truth, Len as Count}
use Rattle.priority_channel_recorded.specs.declared.book.Entry.{Entry}

-- no waiters: nobody waits in a recorded channel
abbrev pub Machine : Type 0 → Type 0 → Type 0
Machine T P = State T P (Unit {0})

-- `slots`: for how many entries there is memory
pub record Chronicle (T P : Type 0) : Type 0 where
  pub state : Machine T P
  pub history : List (Entry T P)
  pub slots : ℕ

module _ {T P : Type 0} where
  abbrev pub entry : ℕ → Call T P → Reply T P → Entry T P
  entry who made reply = record { who = who; call = made; reply = reply }

  abbrev pub who_of : Entry T P → ℕ
  who_of entry = entry.who

  abbrev pub call_of : Call T P → Calls T P (Unit {0})
  call_of (TrySend msg priority) = call.TrySend msg priority
  call_of (TrySendEvicting msg priority) = call.TrySendEvicting msg priority
  call_of TryRecv = call.TryRecv
  call_of Close = call.Close
  call_of IsClosed = call.IsClosed
  call_of IsEmpty = call.IsEmpty
  call_of IsFull = call.IsFull
  call_of Len = call.Len

  abbrev pub reply_of : Answers T P → Option (Reply T P)
  reply_of (answer.TrySend reply) = Some (Sent reply)
  reply_of (answer.TrySendEvicting reply) = Some (Displaced reply)
  reply_of (answer.TryRecv reply) = Some (Received reply)
  reply_of (answer.Close was_open) = Some (Truth was_open)
  reply_of (answer.IsClosed told) = Some (Truth told)
  reply_of (answer.IsEmpty told) = Some (Truth told)
  reply_of (answer.IsFull told) = Some (Truth told)
  reply_of (answer.Len told) = Some (Count told)
  reply_of other = None

  abbrev pub Records : Entry T P → Operation T P (Unit {0}) → Type 0
  Records entry made = (made.call ≡ call_of entry.call) × (reply_of made.answer ≡ Some entry.reply)

  module _ (cmp : P → P → Ordering) where
    pub record IsStep (old : Machine T P) (made : Call T P) (reply : Reply T P)
        (new : Machine T P) : Type 0 where
      pub answer : Answers T P
      pub handed : Handed (Unit {0})
      pub replies : reply_of answer ≡ Some reply
      pub step : Step cmp (λ waker kept. kept ≡ waker) old (call_of made) answer handed new

    -- a run from the opening of a reserved channel of this capacity
    pub record IsHistory (capacity : ℕ) (history : List (Entry T P))
        (state : Machine T P) : Type 0 where
      pub run : List (Operation T P (Unit {0}))
      pub records : AllZip Records history run
      pub leads : Run cmp (λ waker kept. kept ≡ waker) (opening capacity true) run state

    pub record IsLegal (capacity : ℕ) (history : List (Entry T P)) : Type 0 where
      pub state : Machine T P
      pub run : IsHistory capacity history state

    pub legal_none : (capacity : ℕ) → IsLegal capacity []
    legal_none capacity = record {
      state = opening capacity true;
      run = record { run = []; records = tt; leads = refl };
    }
