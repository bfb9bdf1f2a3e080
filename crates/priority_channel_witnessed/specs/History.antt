-- Histories of calls: for each, its pass's number, what it told, and the waiters that it took off
-- their lists. They exist in contracts alone.
use Rattle.std.specs.Prelude.{◌≡◌, ℕ, Bool, List, [], ◌∷◌, ◌++◌, refl}
use Rattle.priority_channel_calls.specs.Told.{Told, Means, Makes}
use Rattle.priority_channel_core.specs.Prelude.{State, Handed, opening, Operation, Ordering}
use Rattle.priority_channel_witnessed.specs.declared.chronicle.Entry.{Entry}

-- a channel's state, and the history of its calls
pub record Chronicle (T P W : Type 0) : Type 0 where
  pub state : State T P W
  pub history : List (Entry T P W)

module _ {T P W : Type 0} where
  abbrev pub entry : ℕ → Told T P W → Handed W → Entry T P W
  entry who told handed = record { who = who; told = told; handed = handed }

  abbrev pub who_of : Entry T P W → ℕ
  who_of entry = entry.who

  -- the run has the steps of these calls, one call's after the other's
  abbrev pub HasSteps : List (Entry T P W) → List (Operation T P W) → Type 0
  HasSteps [] run = run ≡ []
  HasSteps (entry ∷ more) run =
      (own : List (Operation T P W)) × (rest : List (Operation T P W))
      × Means entry.told entry.handed own × HasSteps more rest × (run ≡ own ++ rest)

  module _ (cmp : P → P → Ordering) (is_clone : W → W → Type 0) where
    -- each call has made the steps that it told, from the state in which the one before left it
    abbrev pub Lead : State T P W → List (Entry T P W) → State T P W → Type 0
    Lead old [] new = new ≡ old
    Lead old (entry ∷ more) new =
        (mid : State T P W) × Makes cmp is_clone old entry.told entry.handed mid
        × Lead mid more new

    -- the entries lead from the opening of such a channel to this state
    pub record IsHistory (capacity : ℕ) (is_reserved : Bool) (history : List (Entry T P W))
        (state : State T P W) : Type 0 where
      pub leads : Lead (opening capacity is_reserved) history state

    -- a legal history leads from the opening of such a channel to some state
    pub record IsLegal (capacity : ℕ) (is_reserved : Bool)
        (history : List (Entry T P W)) : Type 0 where
      pub state : State T P W
      pub is : IsHistory capacity is_reserved history state

    -- the entry's steps were made in a state to which the entries before it lead
    pub record IsNext (capacity : ℕ) (is_reserved : Bool) (before : List (Entry T P W))
        (last : Entry T P W) : Type 0 where
      pub old : State T P W
      pub new : State T P W
      pub so_far : IsHistory capacity is_reserved before old
      pub made : Makes cmp is_clone old last.told last.handed new

    -- the history without calls
    pub legal_none : (capacity : ℕ) (is_reserved : Bool) → IsLegal capacity is_reserved []
    legal_none capacity is_reserved = record {
      state = opening capacity is_reserved;
      is = record { leads = refl };
    }
