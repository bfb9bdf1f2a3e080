-- What a pass carries, and what a call adds to it.
use Rattle.std.specs.Prelude.{◌≡◌, ◌≢◌, ◌==◌, ◌≤◌, ℕ, List, [], ◌∷◌, ◌++◌, count_by, All, EachIndex, slice_get, Some, sum_by}

pub record Carried (E : Type 0) : Type 0 where
  pub number : ℕ
  pub count : ℕ
  pub seen : List E

module _ {E : Type 0} where
  -- passes without calls, numbered from 0 on
  abbrev pub AreNew : List (Carried E) → Type 0
  AreNew passes =
      EachIndex passes
      (λ i. slice_get passes i ≡ Some (record { number = i; count = 0; seen = [] }))

  abbrev pub calls_made : List (Carried E) → ℕ
  calls_made passes = sum_by (λ pass. pass.count) passes

  -- no two passes have one number
  abbrev pub AreApart : List (Carried E) → Type 0
  AreApart [] = Unit {0}
  AreApart (pass ∷ others) = All (λ other. pass.number ≢ other.number) others × AreApart others

module _ {E : Type 0} (who : E → ℕ) where
  abbrev pub calls_of : ℕ → List E → ℕ
  calls_of number history = count_by (λ entry. who entry == number) history

  -- the passes' calls are the entries of the history
  abbrev pub Accounts : List (Carried E) → List E → Type 0
  Accounts passes history =
      All (λ pass. calls_of pass.number history ≡ pass.count) passes
      × ((number : ℕ) → All (λ pass. number ≢ pass.number) passes → calls_of number history ≡ 0)

  -- `new` has seen a legal history: all that `old` had, and then more, with `last` at its end.
  -- Under its number stand no fewer entries than calls.
  pub record IsTold (is_legal : List E → Type 0) (old : Carried E) (last : E)
      (new : Carried E) : Type 0 where
    pub between : List E
    pub seen : new.seen ≡ (old.seen ++ between) ++ last ∷ []
    pub legal : is_legal new.seen
    pub counted : new.count ≤ calls_of new.number new.seen
