-- A pair that is given another priority.
use Rattle.std.specs.Prelude.{◌≡◌, List, ◌∷◌, ◌++◌, All}

-- one pair has another priority, and keeps its place
pub record Changes {T P : Type 0} (pending : List (T × P)) (was priority : P) (new : List (T × P))
    : Type 0 where
  pub msg : T
  pub before : List (T × P)
  pub after : List (T × P)
  pub split : pending ≡ before ++ (msg, was) ∷ after
  pub changed : new ≡ before ++ (msg, priority) ∷ after

-- that pair passes, and none before it does
pub record PassesFirst {T P : Type 0} (passes fails : T × P → Type 0) {pending : List (T × P)}
    {was priority : P} {new : List (T × P)} (change : Changes pending was priority new)
    : Type 0 where
  pub passed : passes (change.msg, was)
  pub failed : All fails change.before
