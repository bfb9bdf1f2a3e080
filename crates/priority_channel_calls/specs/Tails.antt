-- What is left of a bulk send.
use Rattle.std.specs.Prelude.{ℕ, List, drop}

-- for every list that `old` holds, `new` holds a tail of it
pub record HoldsTail {X M : Type 0} (holds : M → List X → Type 0) (old new : M) : Type 0 where
  pub at : (list : List X) → holds old list → (n : ℕ) × holds new (drop n list)
