-- A list sorted by its keys.
use Rattle.std.specs.Prelude.{ℕ, if◌then◌else◌, List, [], ◌∷◌, nat_lt}

module _ {X : Type 0} (key : X → ℕ) where
  -- before the first element that has a greater key
  unfoldable pub put_in : X → List X → List X
  put_in x [] = x ∷ []
  put_in x (y ∷ ys) = if nat_lt (key x) (key y) then x ∷ y ∷ ys else y ∷ put_in x ys

  unfoldable pub by_key : List X → List X
  by_key [] = []
  by_key (x ∷ xs) = put_in x (by_key xs)
