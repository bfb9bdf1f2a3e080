-- What a receive with a condition receives.
use Rattle.std.specs.Prelude.{◌≡◌, ◌≢◌, ◌⊎◌, ⊤, List, [], true, false, Result, Ok, Err}
use Rattle.std.specs.Fn.{Shared}
use Rattle.std.specs.Borrow.{Bor}
use Rattle.priority_channel_core.specs.bag.Prelude.{Ordering, TakesGreatest, Tells}
use Rattle.priority_channel_core.specs.declared.calls.Call.TheVariants as call
use Rattle.priority_channel_core.specs.declared.calls.Answer.TheVariants as answer
use Rattle.priority_channel_core.specs.declared.errors.TryRecvError.TheVariants as try_recv
use Rattle.priority_channel_core.specs.declared.errors.TryRecvManyError.TheVariants as try_lease
use Rattle.priority_channel_calls.specs.Told.{Told}
use Rattle.priority_channel_calls.specs.Told.Told.{Nothing, Exactly, Takes, Leases}
use Rattle.priority_channel_waiting.specs.declared.timeouts.Ended.{Ended}
use Rattle.priority_channel_waiting.specs.declared.timeouts.Ended.TheVariants as ended
use Rattle.priority_channel_waiting.specs.declared.seeking.Due.{Due}
use Rattle.priority_channel_waiting.specs.declared.seeking.Due.TheVariants.{Never, Now}
use Rattle.priority_channel_waiting.specs.declared.seeking.Sought.{Sought}
use Rattle.priority_channel_waiting.specs.declared.seeking.Sought.TheVariants.{Found, Over, Memory, NotYet}

module _ {X : Type 0} where
  abbrev pub IfFound : Sought X → (X → Type 0) → Type 0
  IfFound (Found found) fact = fact found
  IfFound Over fact = ⊤
  IfFound Memory fact = ⊤
  IfFound (NotYet within) fact = ⊤

  -- the wait is over, with or without what it was for
  abbrev pub IfEnded : Sought X → Type 0 → Type 0
  IfEnded (NotYet within) fact = ⊤
  IfEnded ended fact = fact

  abbrev pub IfNotYet : Sought X → Type 0 → Type 0
  IfNotYet (Found pair) fact = ⊤
  IfNotYet Over fact = ⊤
  IfNotYet Memory fact = ⊤
  IfNotYet (NotYet within) fact = fact

  -- what came of a look, from the answer of the wait
  abbrev pub sought_by : {O : Type 0} → Result X (Ended (Unit {0}) O) → Sought X
  sought_by (Ok found) = Found found
  sought_by (Err (ended.Over call over)) = Over
  sought_by (Err (ended.Closed call)) = Over
  sought_by (Err (ended.Memory call)) = Memory

-- the steps of a receive, or none
module _ {T P W : Type 0} where
  abbrev pub received : Sought (T × P) → Told T P W
  received (Found pair) = Exactly call.TryRecv (answer.TryRecv (Ok pair))
  received Over = Exactly call.TryRecv (answer.TryRecv (Err try_recv.Closed))
  received Memory = Nothing
  received (NotYet within) = Nothing

  abbrev pub taken_where : Sought (T × P) → Told T P W
  taken_where (Found pair) = Takes pair
  taken_where sought = received sought

  -- the steps of a lease, or none
  abbrev pub leased : {X : Type 0} → Sought (X × (T × P)) → Told T P W
  leased (Found held) = Exactly call.TryLease (answer.TryLease (Ok held.1))
  leased Over = Exactly call.TryLease (answer.TryLease (Err try_lease.Closed))
  leased Memory = Exactly call.TryLease (answer.TryLease (Err try_lease.Memory))
  leased (NotYet within) = Nothing

  abbrev pub leased_where : {X : Type 0} → Sought (X × (T × P)) → Told T P W
  leased_where (Found held) = Leases held.1
  leased_where sought = leased sought

  -- a look at whether the channel is closed
  abbrev pub seen_closed : {X : Type 0} → Sought X → Told T P W
  seen_closed (NotYet within) = Exactly call.IsClosed (answer.IsClosed false)
  seen_closed ended = Exactly call.IsClosed (answer.IsClosed true)

module _ {T P : Type 0} where
  -- a call of `when` on this message may tell when it is due
  abbrev pub ComesDue : {F : Type 0} → Shared F (Bor T × (Bor P × Unit {0})) Due → F → T × P
      → Type 0
  ComesDue g when pair = (due : Due) × Tells g when pair due × (due ≢ Never)

  -- nothing is pending, or a call of `when` on the first message may tell that it is not due now
  abbrev pub NoneDue : {F : Type 0} → Shared F (Bor T × (Bor P × Unit {0})) Due → F
      → (P → P → Ordering) → List (T × P) → Type 0
  NoneDue g when cmp pending = (pending ≡ [])
      ⊎ ((first : T × P) × (rest : List (T × P)) × TakesGreatest cmp pending first rest
      × (due : Due) × Tells g when first due × (due ≢ Now))
