-- Which pending pair makes room for another.
use Rattle.std.specs.Prelude.{◌≡◌, false, List, [], ◌∷◌, ◌++◌, All}
use Rattle.std.specs.Ordering.{is_lt}
use Rattle.std.specs.declared.cmp.Ordering.{Ordering}
use Rattle.std.specs.declared.cmp.Ordering.TheVariants.{Less, Greater}

module _ {T P : Type 0} (cmp : P → P → Ordering) where
  -- `pair` is the last of the pairs of least priority; `rest` is the others
  pub record TakesLeast (pending : List (T × P)) (pair : T × P) (rest : List (T × P))
      : Type 0 where
    pub before : List (T × P)
    pub after : List (T × P)
    pub split : pending ≡ before ++ pair ∷ after
    pub closed_up : rest ≡ before ++ after
    pub not_below : All (λ other. is_lt (cmp other.1 pair.1) ≡ false) before
    pub above : All (λ other. cmp other.1 pair.1 ≡ Greater) after

  abbrev pub NoneBelow : List (T × P) → P → Type 0
  NoneBelow pending priority = All (λ other. is_lt (cmp other.1 priority) ≡ false) pending

  -- the least pair `out` makes room for `pair`
  pub record Displaces (pending : List (T × P)) (pair out : T × P) (new : List (T × P))
      : Type 0 where
    pub rest : List (T × P)
    pub less : cmp out.1 pair.1 ≡ Less
    pub least : TakesLeast pending out rest
    pub added : new ≡ rest ++ pair ∷ []
