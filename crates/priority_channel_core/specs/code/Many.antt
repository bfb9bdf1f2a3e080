-- Many receives, or takings: each is a step of its own.
use Rattle.std.specs.Prelude.{◌≡◌, ℕ, List, [], ◌∷◌, map, Ok, Some}
use Rattle.priority_channel_core.specs.Types.{Answer, Ordering}
use Rattle.priority_channel_core.specs.declared.calls.Call.TheVariants.{TryRecv, TakeWhere}
use Rattle.priority_channel_core.specs.machine.State.{State, Handed, nobody}
use Rattle.priority_channel_core.specs.machine.Run.{Operation, Run}

-- a pending pair, and its place in the order of acceptance
pub record Placed (T P : Type 0) : Type 0 where
  pub place : ℕ
  pub pair : T × P

module _ {T P W : Type 0} where
  abbrev pub receives : T × P → Handed W → Operation T P W
  receives pair handed =
      record { call = TryRecv; answer = Answer.TryRecv (Ok pair); handed = handed }

  abbrev pub takes : Placed T P → Handed W → Operation T P W
  takes one handed = record {
    call = TakeWhere one.place;
    answer = Answer.TakeWhere (Some one.pair);
    handed = handed;
  }

  -- the first call wakes the waiters that all of them wake
  abbrev pub in_turn : {X : Type 0} → (X → Handed W → Operation T P W) → List X → Handed W
      → List (Operation T P W)
  in_turn makes [] handed = []
  in_turn makes (x ∷ xs) handed = makes x handed ∷ in_turn makes xs nobody

module _ {T P W : Type 0} (cmp : P → P → Ordering) (is_clone : W → W → Type 0) where
  pub record InTurn {X : Type 0} (makes : X → Handed W → Operation T P W) (old : State T P W)
      (xs : List X) (handed : Handed W) (new : State T P W) : Type 0 where
    pub run : Run cmp is_clone old (in_turn makes xs handed) new
    pub nobody_for_none : xs ≡ [] → handed ≡ nobody

  abbrev pub ReceivesInTurn : State T P W → List (T × P) → Handed W → State T P W → Type 0
  ReceivesInTurn = InTurn receives

  abbrev pub TakesInTurn : State T P W → List (T × P) → Handed W → State T P W → Type 0
  TakesInTurn old pairs handed new =
      (taken : List (Placed T P)) × (map (λ one. one.pair) taken ≡ pairs)
      × InTurn takes old taken handed new
