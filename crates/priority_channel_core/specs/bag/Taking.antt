-- Pairs that are taken out, wherever they stand.
use Rattle.std.specs.Prelude.{◌≡◌, List, [], ◌∷◌, ◌++◌}

-- `rest` is the others, in their order
pub record TakesOne {T P : Type 0} (pending : List (T × P)) (pair : T × P) (rest : List (T × P))
    : Type 0 where
  pub before : List (T × P)
  pub after : List (T × P)
  pub split : pending ≡ before ++ pair ∷ after
  pub closed_up : rest ≡ before ++ after

abbrev pub TakesAll : {T P : Type 0} → List (T × P) → List (T × P) → List (T × P) → Type 0
TakesAll pending [] rest = rest ≡ pending
TakesAll {T} {P} pending (pair ∷ more) rest =
    (left : List (T × P)) × TakesOne pending pair left × TakesAll left more rest
