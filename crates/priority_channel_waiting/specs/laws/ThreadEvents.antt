-- What may happen on one side of a channel. An act of a thread is the end of its sleep, or one hold
-- of the queue's lock with at most one call of the core in it. The code makes `Unlists` and
-- `Promotes` in one hold; here others may come between.
use Rattle.std.specs.Prelude.{◌≡◌, ◌≢◌, ℕ, ◌+◌, ◌-◌, ◌<◌, ◌≤◌, false, List, [], ◌∷◌, ◌++◌, slice_get, slice_set, Option, Some, None, IsSome, option_to_list, ◌⊎◌}
use Rattle.priority_channel_core.specs.declared.calls.Call.TheVariants as call
use Rattle.priority_channel_core.specs.Prelude.{without, unlist, State, Handed, IsGood, Step, Calls, Answers, IsBlocked, Ordering}
use Rattle.priority_channel_waiting.specs.Lines.{Lined, IsFirst, Lists}
use Rattle.priority_channel_waiting.specs.laws.Threads.{Phase, Thread, ThreadWorld, turn, wake}
use Rattle.priority_channel_waiting.specs.laws.Threads.Phase.{Outside, Spins, Asks, Waits, Leads, Sleeps}

pub data Act : Type 0 where
  -- the thread goes on from its sleep, woken or not (`park`)
  Wakes : Act
  -- it joins the queue (`join`), asks whether it is the head (`lead`), or leaves (`leave`)
  Joins : Act
  AsksForLead : Act
  Leaves : Act
  -- it begins to spin (`begin_spin`, `unlist`), and stops (`end_spin`, `rouse`)
  BeginsSpin : Act
  EndsSpin : Act
  -- the head is listed and sleeps (`list_first`), takes itself off the list (`unlist`), and
  -- promotes the next (`move_up`, `rouse`)
  ListsItself : Act
  Unlists : Act
  Promotes : Act

-- a call of the core, by whomever, or an act of the thread at a position of the list
pub data ThreadEvent (T P : Type 0) : Type 0 where
  Makes : Calls T P ℕ → ThreadEvent T P
  Does : ℕ → Act → ThreadEvent T P

-- the ticket that a call of the core is given
abbrev pub given_to : {T P : Type 0} → Calls T P ℕ → Option ℕ
given_to (call.PollSend msg priority given waker) = given
given_to (call.PollSendv pairs given waker) = given
given_to (call.PollRecv given waker) = given
given_to (call.GiveUp ticket) = Some ticket
given_to _ = None

abbrev pub WakesTo : Phase → Phase → Type 0
WakesTo (Waits number) next = next ≡ Asks number
WakesTo (Sleeps number) next = next ≡ Leads number
WakesTo _ next = ⊥

-- who spins, before and while it does
abbrev pub SpinsAs : Phase → Phase → Type 0
SpinsAs Outside next = next ≡ Spins None
SpinsAs (Leads number) next = next ≡ Spins (Some number)
SpinsAs _ next = ⊥

-- the core takes the ticket of the head off its list
abbrev pub TakesOff : {T P : Type 0} → Option ℕ → State T P ℕ → State T P ℕ → Type 0
TakesOff ticket old new = IsGood new × (new ≡ record old { waiters = unlist ticket old.waiters })

-- `Line::is_unattended`
abbrev pub IsUnattended : Lined → Type 0
IsUnattended line = IsSome line.first × (line.ticket ≡ None) × (line.spinning ≡ 0)

module _ {T P : Type 0} where
  -- `Line::list_first`, if it lists the head
  abbrev pub ListsFirst : ThreadWorld T P → ThreadWorld T P → Type 0
  ListsFirst old new =
      (head : ℕ × ℕ) × (old.line.first ≡ Some head) × IsBlocked old.side old.state
      × Lists old.side old.line.ticket head.1 new.line.ticket old.state new.state
      × IsSome new.line.ticket × IsGood new.state
      × (new ≡ record old {
        line = record old.line { ticket = new.line.ticket };
        state = new.state;
      })

  -- a head that is neither listed nor watched by a spinner is listed, or woken
  abbrev pub Rouses : ThreadWorld T P → ThreadWorld T P → Type 0
  Rouses old new =
      ((IsUnattended old.line → ⊥) × (new ≡ old))
      ⊎ (IsUnattended old.line × (ListsFirst old new
      ⊎ (new ≡ record old { threads = wake (option_to_list old.line.first) old.threads })))

  -- an act of the thread at a position of the list
  abbrev pub Acts : ThreadWorld T P → ℕ → Thread → Act → ThreadWorld T P → Type 0
  Acts old which thread Wakes new =
      (next : Phase) × WakesTo thread.phase next
      × (new ≡ record old {
        threads = slice_set old.threads which (record thread { phase = next; is_woken = false });
      })
  Acts old which thread Joins new =
      (thread.phase ≡ Outside)
      × (((old.line.first ≡ None) × (new.line ≡ record old.line {
        first = Some (old.line.next_number, thread.waiter);
        ticket = None;
        next_number = old.line.next_number + 1;
      })) ⊎ (IsSome old.line.first × (new.line ≡ record old.line {
        others = old.line.others ++ (old.line.next_number, thread.waiter) ∷ [];
        next_number = old.line.next_number + 1;
      })))
      × (new ≡ record old {
        line = new.line;
        threads = turn which thread (Asks old.line.next_number) old.threads;
      })
  Acts old which thread AsksForLead new =
      (number : ℕ) × (thread.phase ≡ Asks number)
      × ((IsFirst old.line number
      × (new ≡ record old { threads = turn which thread (Leads number) old.threads }))
      ⊎ ((IsFirst old.line number → ⊥)
      × (new ≡ record old { threads = turn which thread (Waits number) old.threads })))
  Acts old which thread Leaves new =
      (number : ℕ) × (thread.phase ≡ Asks number) × (IsFirst old.line number → ⊥)
      × (new ≡ record old {
        line = record old.line { others = without number old.line.others };
        threads = turn which thread Outside old.threads;
      })
  Acts old which thread BeginsSpin new =
      (next : Phase) × SpinsAs thread.phase next
      × (0 < new.line.spinning) × (new.line.spinning ≤ old.line.spinning + 1)
      × TakesOff old.line.ticket old.state new.state
      × (new ≡ record old {
        line = record old.line { ticket = None; spinning = new.line.spinning };
        state = new.state;
        threads = turn which thread next old.threads;
      })
  Acts old which thread EndsSpin new =
      (next : Phase) × SpinsAs next thread.phase
      × Rouses (record old {
        line = record old.line { spinning = old.line.spinning - 1 };
        threads = turn which thread next old.threads;
      }) new
  Acts old which thread ListsItself new =
      (number : ℕ) × (thread.phase ≡ Leads number)
      × ListsFirst (record old { threads = turn which thread (Sleeps number) old.threads }) new
  Acts old which thread Unlists new =
      (number : ℕ) × (thread.phase ≡ Leads number)
      × TakesOff old.line.ticket old.state new.state
      × (new ≡ record old { line = record old.line { ticket = None }; state = new.state })
  Acts old which thread Promotes new =
      (number : ℕ) × (thread.phase ≡ Leads number)
      × (first : Option (ℕ × ℕ)) × (others : List (ℕ × ℕ))
      × (old.line.others ≡ option_to_list first ++ others) × (first ≡ None → others ≡ [])
      × Rouses (record old {
        line = record old.line { first = first; ticket = None; others = others };
        threads = turn which thread Outside old.threads;
      }) new

  module _ (cmp : P → P → Ordering) where
    -- A call of the core wakes those that it lets go on. It is never given the ticket of the head:
    -- tasks and the other side have tickets of their own.
    abbrev pub Occurs : ThreadWorld T P → ThreadEvent T P → ThreadWorld T P → Type 0
    Occurs old (Makes made) new =
        ((ticket : ℕ) → given_to made ≡ Some ticket → old.line.ticket ≢ Some ticket)
        × (reply : Answers T P) × (handed : Handed ℕ)
        × Step cmp (λ waker kept. kept ≡ waker) old.state made reply handed new.state
        × (new ≡ record old {
          state = new.state;
          threads = wake (handed.room ++ handed.message) old.threads;
        })
    Occurs old (Does which act) new =
        (thread : Thread) × (slice_get old.threads which ≡ Some thread)
        × Acts old which thread act new

    abbrev pub LeadsTo : ThreadWorld T P → List (ThreadEvent T P) → ThreadWorld T P → Type 0
    LeadsTo old [] new = new ≡ old
    LeadsTo old (event ∷ more) new =
        (mid : ThreadWorld T P) × Occurs old event mid × LeadsTo mid more new
