-- What holds of each side that events reach from an unused one.
use Rattle.std.specs.Prelude.{◌≡◌, ℕ, true, slice_get, Option, Some, None, ◌⊎◌}
use Rattle.priority_channel_waiting.specs.laws.WaitingLaw.{CanGoOn}
use Rattle.priority_channel_waiting.specs.laws.Threads.{Phase, Thread, ThreadWorld}
use Rattle.priority_channel_waiting.specs.laws.Threads.Phase.{Outside, Spins, Asks, Waits, Leads, Sleeps}

-- the number of a thread in the queue
abbrev pub number_of : Phase → Option ℕ
number_of Outside = None
number_of (Spins lead) = lead
number_of (Asks number) = Some number
number_of (Waits number) = Some number
number_of (Leads number) = Some number
number_of (Sleeps number) = Some number

-- the number of a thread that sleeps, or is about to
abbrev pub asleep_at : Phase → Option ℕ
asleep_at (Waits number) = Some number
asleep_at (Sleeps number) = Some number
asleep_at _ = None

module _ {T P : Type 0} where
  pub record SomeSpin (world : ThreadWorld T P) : Type 0 where
    pub which : ℕ
    pub thread : Thread
    pub there : slice_get world.threads which ≡ Some thread
    pub lead : Option ℕ
    pub spins : thread.phase ≡ Spins lead

  -- The head of the queue is some thread. It is awake, so it will look again, or promote the next;
  -- or it has been woken since it last slept; or a thread spins, and will list or wake the head.
  pub record HeadIsSeenTo (world : ThreadWorld T P) : Type 0 where
    pub which : ℕ
    pub head : Thread
    pub number : ℕ
    pub there : slice_get world.threads which ≡ Some head
    pub stands : number_of head.phase ≡ Some number
    pub first : world.line.first ≡ Some (number, head.waiter)
    pub seen_to : (asleep_at head.phase ≡ None) ⊎ ((head.is_woken ≡ true) ⊎ SomeSpin world)

  -- if a thread is in the queue, and a call of its side can go on, then the head is seen to
  abbrev pub NobodySleepsOn : ThreadWorld T P → Type 0
  NobodySleepsOn world =
      (which : ℕ) (thread : Thread) (number : ℕ)
      → slice_get world.threads which ≡ Some thread → number_of thread.phase ≡ Some number
      → CanGoOn world.state world.side → HeadIsSeenTo world
