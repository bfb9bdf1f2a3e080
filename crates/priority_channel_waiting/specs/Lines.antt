-- Queues of the threads that wait on one side, by numbers that are given once.
use Rattle.std.specs.Prelude.{◌≡◌, ℕ, List, Option, Some}
use Rattle.priority_channel_core.specs.Prelude.{State, Ends}
use Rattle.priority_channel_core.specs.declared.side.Side.{Side}

-- the head with its waiter and the ticket of its listing, the threads behind it, the next number,
-- and how many threads spin before they join
pub record Lined : Type 0 where
  pub first : Option (ℕ × ℕ)
  pub ticket : Option ℕ
  pub others : List (ℕ × ℕ)
  pub next_number : ℕ
  pub spinning : ℕ

abbrev pub IsFirst : Lined → ℕ → Type 0
IsFirst line number = (waiter : ℕ) × (line.first ≡ Some (number, waiter))

module _ {T P : Type 0} where
  -- a listing under this ticket: the given one, if that is listed already
  abbrev pub Lists : Side → Option ℕ → ℕ → Option ℕ → State T P ℕ → State T P ℕ → Type 0
  Lists = Ends (λ waker kept. kept ≡ waker)
