-- What a call and its answer tell of the steps that one hold of the lock makes.
use Rattle.std.specs.Prelude.{◌≡◌, ℕ, Bool, Vec, true, false, List, [], ◌∷◌, map, Option, Some, None, Result, Ok, Err}
use Rattle.std.specs.declared.cmp.Ordering.{Ordering}
use Rattle.priority_channel_core.specs.declared.calls.Call.TheVariants as call
use Rattle.priority_channel_core.specs.declared.calls.Answer.TheVariants as answer
use Rattle.priority_channel_core.specs.declared.errors.TryRecvError.{TryRecvError}
use Rattle.priority_channel_core.specs.declared.errors.TryRecvManyError.{TryRecvManyError}
use Rattle.priority_channel_core.specs.declared.side.Side.{Side}
use Rattle.priority_channel_core.specs.declared.side.Side.TheVariants.{Room, Message}
use Rattle.priority_channel_calls.specs.declared.places.Fill.{Fill}
use Rattle.priority_channel_core.specs.Prelude.{State, Handed, nobody, Calls, Answers, Operation, Run, SendReply, Placed, in_turn, takes}

pub data Told (T P W : Type 0) : Type 0 where
  -- no step, and nobody is woken
  Nothing : Told T P W
  -- this call, with this answer
  Exactly : Calls T P W → Answers T P → Told T P W
  -- a call that looks, and then this one
  After : Calls T P W → Answers T P → Calls T P W → Answers T P → Told T P W
  -- a bulk send of some pairs
  SendsSome : Told T P W
  -- a taking of this pair, at some place
  Takes : T × P → Told T P W
  -- takings of these pairs, in turn
  TakesAll : List (T × P) → Told T P W
  -- a lease of this pair, at some place
  Leases : T × P → Told T P W
  -- a change to this priority, at some place
  Changes : P → Result P P → Told T P W

module _ {T P W : Type 0} where
  abbrev pub step_of : Calls T P W → Answers T P → Handed W → Operation T P W
  step_of made reply handed = record { call = made; answer = reply; handed = handed }

  -- the run is one that is told
  abbrev pub Means : Told T P W → Handed W → List (Operation T P W) → Type 0
  Means Told.Nothing handed run = (run ≡ []) × (handed ≡ nobody)
  Means (Told.Exactly made reply) handed run = run ≡ step_of made reply handed ∷ []
  Means (Told.After look seen made reply) handed run =
      run ≡ step_of look seen nobody ∷ step_of made reply handed ∷ []
  Means Told.SendsSome handed run =
      (front : List (T × P)) × (reply : SendReply (List (T × P)))
      × (run ≡ step_of (call.TrySendv front) (answer.TrySendv reply) handed ∷ [])
  Means (Told.Takes pair) handed run =
      (place : ℕ)
      × (run ≡ step_of (call.TakeWhere place) (answer.TakeWhere (Some pair)) handed ∷ [])
  Means (Told.Leases pair) handed run =
      (place : ℕ)
      × (run ≡ step_of (call.LeaseWhere place) (answer.LeaseWhere (Ok (Some pair))) handed ∷ [])
  Means (Told.TakesAll pairs) handed run =
      (taken : List (Placed T P)) × (map (λ one. one.pair) taken ≡ pairs)
      × (run ≡ in_turn takes taken handed) × (taken ≡ [] → handed ≡ nobody)
  Means (Told.Changes priority changed) handed run =
      (place : ℕ)
      × (run ≡ step_of (call.ChangePriority place priority)
      (answer.ChangePriority changed) handed ∷ [])

  -- such a run was made
  pub record Makes (cmp : P → P → Ordering) (is_clone : W → W → Type 0) (old : State T P W)
      (told : Told T P W) (handed : Handed W) (new : State T P W) : Type 0 where
    pub run : List (Operation T P W)
    pub means : Means told handed run
    pub leads : Run cmp is_clone old run new

  -- of a receive that a test may decline
  abbrev pub received_if : Result (Option (T × P)) TryRecvError → Told T P W
  received_if (Ok (Some pair)) = Told.Exactly call.TryRecv (answer.TryRecv (Ok pair))
  received_if (Ok None) = Told.Nothing
  received_if (Err error) = Told.Exactly call.TryRecv (answer.TryRecv (Err error))

  -- of a receive of what passes a test
  abbrev pub received_where : Result (Option (T × P)) TryRecvError → Told T P W
  received_where (Ok (Some pair)) = Told.Takes pair
  received_where (Ok None) = Told.Nothing
  received_where (Err error) = Told.Exactly call.TryRecv (answer.TryRecv (Err error))

  -- of a lease that a test may decline
  abbrev pub leased_if : Result (Option (T × P)) TryRecvManyError → Told T P W
  leased_if (Ok (Some pair)) = Told.Exactly call.TryLease (answer.TryLease (Ok pair))
  leased_if (Ok None) = Told.Nothing
  leased_if (Err error) = Told.Exactly call.TryLease (answer.TryLease (Err error))

  -- of a lease of what passes a test
  abbrev pub leased_where : Result (Option (T × P)) TryRecvManyError → Told T P W
  leased_where (Ok (Some pair)) = Told.Leases pair
  leased_where (Ok None) = Told.Nothing
  leased_where (Err error) = Told.Exactly call.TryLease (answer.TryLease (Err error))

  abbrev pub taken_one : Option (T × P) → Told T P W
  taken_one (Some pair) = Told.Takes pair
  taken_one None = Told.Nothing

  -- of takings for which memory may be refused
  abbrev pub taken_all : {E : Type 0} → Result (List (T × P)) E → Told T P W
  taken_all (Ok pairs) = Told.TakesAll pairs
  taken_all (Err refused) = Told.Nothing

  -- of another handle of this side
  abbrev pub joined : Side → Bool → Told T P W
  joined Room done = Told.Exactly call.CloneSender (answer.CloneSender done)
  joined Message done = Told.Exactly call.CloneReceiver (answer.CloneReceiver done)

  -- the same where the channel is open; None where it is closed
  abbrev pub joined_open : Side → Option Bool → Told T P W
  joined_open side None = Told.Exactly call.IsClosed (answer.IsClosed true)
  joined_open Room (Some done) =
      Told.After call.IsClosed (answer.IsClosed false) call.CloneSender (answer.CloneSender done)
  joined_open Message (Some done) =
      Told.After call.IsClosed (answer.IsClosed false) call.CloneReceiver
      (answer.CloneReceiver done)

  -- of a handle of this side that goes; None where none was counted
  abbrev pub left : Side → Option ℕ → Told T P W
  left side None = Told.Nothing
  left Room (Some others) = Told.Exactly call.DropSender answer.DropSender
  left Message (Some others) = Told.Exactly call.DropReceiver answer.DropReceiver

-- what comes with a place, as the machine answers
abbrev pub beside_place : {X Y E : Type 0} → Result (X × Y) E → Result Y E
beside_place (Ok (place, value)) = Ok value
beside_place (Err error) = Err error

-- the same of a lease that a test may decline
abbrev pub beside_place_if : {X Y E : Type 0} → Result (Option (X × Y)) E → Result (Option Y) E
beside_place_if (Ok (Some (place, value))) = Ok (Some value)
beside_place_if (Ok None) = Ok None
beside_place_if (Err error) = Err error

-- the pairs in a vector
abbrev pub items_of : {X A E : Type 0} → Result (Vec X A) E → Result (List X) E
items_of (Ok pairs) = Ok pairs.items
items_of (Err refused) = Err refused

abbrev pub without_place : {X E : Type 0} → Result X E → Result (Unit {0}) E
without_place (Ok place) = Ok tt
without_place (Err error) = Err error

-- what the machine answers to a send into a held place
abbrev pub put_told : {T P : Type 0} → Result (Unit {0}) (Fill T P) → Result (Unit {0}) (T × P)
put_told (Ok done) = Ok done
put_told (Err back) = Err (back.msg, back.priority)
