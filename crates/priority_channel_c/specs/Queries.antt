-- What queries tell where it is not the answer itself.
use Rattle.std.specs.Prelude.{◌≡◌, ℕ, ◌-◌, ◌^◌, Option, Some, None}
use Rattle.priority_channel_core.specs.declared.calls.Call.TheVariants.{Capacity}
use Rattle.priority_channel_core.specs.declared.calls.Answer.TheVariants as answer
use Rattle.priority_channel_c.specs.declared.state.Core.{Core}
use Rattle.priority_channel_c.specs.Replies.{Looks}

-- the number that stands for a capacity, or for none
abbrev pub capacity_number : Option ℕ → ℕ
capacity_number (Some capacity) = capacity
capacity_number None = 2 ^ 64 - 1

abbrev pub TellsCapacity : ℕ → Core → Core → Type 0
TellsCapacity told old new = (capacity : Option ℕ) × (told ≡ capacity_number capacity)
    × Looks Capacity (answer.Capacity capacity) old new
