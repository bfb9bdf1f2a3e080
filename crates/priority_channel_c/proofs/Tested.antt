-- What a test tells of the pair that was changed, as a fact of that pair.
use Rattle.std.specs.Prelude.{List, Result, Ok, Err, IfOk}
use Rattle.priority_channel_core.specs.bag.Prelude.{Changes, PassesFirst}

module _ {T P : Type 0} {Passes Fails Has Lacks : T × P → Type 0} (has : (pair : T × P) → Passes pair → Has pair) (lacks : (pair : T × P) → Fails pair → Lacks pair) where
  pub changed : (old new : List (T × P)) (priority : P) (result : Result P P)
      → IfOk result (λ was. (change : Changes old was priority new) × PassesFirst Passes Fails change)
      → IfOk result (λ was. (change : Changes old was priority new) × PassesFirst Has Lacks change)
  changed old new priority (Ok was) (change, first) = (change, record { passed = has (change.msg, was) first.passed; failed = λ k d there. lacks _ (first.failed k d there) })
  changed old new priority (Err back) none = tt
