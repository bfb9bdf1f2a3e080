-- Which round comes next, and when the rounds end.
use Rattle.std.specs.Prelude.{ℕ, ◌+◌, ◌-◌, ◌≡◌, ◌<◌, ◌≤◌, Option, Some, None, Result, Ok, Err}
use Rattle.refusing.specs.declared.rounds.TheConstants.{MOST_ROUNDS}
use Rattle.refusing.specs.declared.rounds.Vacuous.{Vacuous}
use Rattle.refusing.specs.declared.rounds.Vacuous.TheVariants.{NoRequest, NoEnd}

-- what comes where so many rounds began, and how many began then (None: they have ended)
-- They are counted from 1, and end behind two of them at least, or with an error.
abbrev pub GivesRound : Option ℕ → Option (Result ℕ Vacuous) → Option ℕ → Type 0
GivesRound None round later = (round ≡ None) × (later ≡ None)
GivesRound (Some begun) None later = (1 < begun) × (later ≡ None)
GivesRound (Some begun) (Some (Ok n)) later = (n ≡ begun + 1) × (later ≡ Some n)
GivesRound (Some begun) (Some (Err NoRequest)) later = (begun ≡ 1) × (later ≡ None)
GivesRound (Some begun) (Some (Err NoEnd)) later = (MOST_ROUNDS ≤ begun) × (later ≡ None)

-- no more rounds and errors than these come then
abbrev pub most_left : Option ℕ → ℕ
most_left None = 0
most_left (Some begun) = 1 + (MOST_ROUNDS - begun)
