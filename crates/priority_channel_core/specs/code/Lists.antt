-- The list of an iterator that can be peeked.
use Rattle.std.specs.Prelude.{Option, List}
use Rattle.std.specs.Iterator.{AlwaysYields}
use Rattle.std.specs.Iterator.Adapters.{peekable_steps}
use Rattle.std.specs.declared.iter.Ahead.{Ahead}

-- it always gives the items of the list in order, and then None
pub record HasList {S X : Type 0} (steps : S → Option X → S → Type 0) (msgs : Ahead S X)
    (list : List X) : Type 0 where
  pub runs : AlwaysYields (peekable_steps steps) (λ x. x) msgs list
