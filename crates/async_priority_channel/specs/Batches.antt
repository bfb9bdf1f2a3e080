-- What a receive of many messages returns.
use Rattle.std.specs.Prelude.{◌≡◌, ℕ, ◌<◌, ◌≤◌, List, ◌++◌, length}

-- the new list is the old one followed by `count` items
abbrev pub Appends : {X : Type 0} → List X → List X → ℕ → Type 0
Appends {X} old new count = (items : List X) × (length items ≡ count) × (new ≡ old ++ items)

-- the count is at most the limit, and at least 1 if the limit is
abbrev pub IsWithin : ℕ → ℕ → Type 0
IsWithin limit count = (count ≤ limit) × (0 < limit → 0 < count)
