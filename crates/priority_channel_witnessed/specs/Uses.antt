-- What a caller knows after its own call, whatever others do.
use Rattle.std.specs.Prelude.{◌≡◌, ℕ, false, Bool, List, [], ◌++◌}
use Rattle.priority_channel_core.specs.bag.Prelude.{TakesGreatest}
use Rattle.priority_channel_core.specs.laws.Accepted.{Conserves}
use Rattle.priority_channel_core.specs.Prelude.{State, Operation, room, Ordering}
use Rattle.priority_channel_witnessed.specs.declared.chronicle.Entry.{Entry}
use Rattle.priority_channel_witnessed.specs.History.{HasSteps, IsHistory}

-- of the pairs that the calls of a history accepted, these are left, and each other one has gone
-- out one way
pub record IsBalanced {T P W : Type 0} (history : List (Entry T P W))
    (left : List (T × P)) : Type 0 where
  pub run : List (Operation T P W)
  pub steps : HasSteps history run
  pub balance : Conserves [] run left

module _ {T P W : Type 0} (cmp : P → P → Ordering) (is_clone : W → W → Type 0) (capacity : ℕ)
    (is_reserved : Bool) where
  -- the channel came to this state after all that had been seen
  pub record Reaches (seen : List (Entry T P W)) (state : State T P W) : Type 0 where
    pub between : List (Entry T P W)
    pub history : IsHistory cmp is_clone capacity is_reserved (seen ++ between) state

  -- the pair was the first of the pending pairs of greatest priority
  pub record WasMostUrgent (seen : List (Entry T P W)) (pair : T × P) : Type 0 where
    pub state : State T P W
    pub reached : Reaches seen state
    pub rest : List (T × P)
    pub takes : TakesGreatest cmp state.pending pair rest

  -- the channel was open and full
  pub record WasFull (seen : List (Entry T P W)) : Type 0 where
    pub state : State T P W
    pub reached : Reaches seen state
    pub opened : state.is_closed ≡ false
    pub no_room : room state ≡ 0
