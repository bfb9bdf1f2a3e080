-- How the waiters that are due are handed over.
use Rattle.std.specs.Prelude.{◌≡◌, ℕ, Bool, true, false, ◌⊎◌, Option, Some, None, List, [], ◌∷◌, ◌++◌}
use Rattle.priority_channel_core.specs.Prelude.{Handed, nobody}
use Rattle.priority_channel_c.specs.declared.state.Core.{Core}

-- the last waker goes, if there is one
abbrev pub Pops : List (ℕ × ℕ) → Option ℕ → List (ℕ × ℕ) → Type 0
Pops old (Some waker) new = (ticket : ℕ) × (old ≡ new ++ (ticket, waker) ∷ [])
Pops old None new = (old ≡ []) × (new ≡ old)

-- one waker goes to the caller and all others stay, or nobody was due
abbrev pub HandsOne : Handed ℕ → Option ℕ → Handed ℕ → Type 0
HandsOne old (Some waker) new =
    (Pops old.room (Some waker) new.room × (new.message ≡ old.message))
    ⊎ (Pops old.message (Some waker) new.message × (new.room ≡ old.room))
HandsOne old None new = (old ≡ nobody) × (new ≡ old)

-- a waker that is there is told
abbrev pub told_waker : Bool → ℕ → Option ℕ
told_waker true waker = Some waker
told_waker false waker = None

abbrev pub HandsOver : Bool → ℕ → Core → Core → Type 0
HandsOver is_there waker old new = (new.channel ≡ old.channel)
    × HandsOne old.due (told_waker is_there waker) new.due
