-- What a call with a test takes, without the step that it makes.
use Rattle.std.proofs.Common.{IfOk, IfSome, Option, Some, None, Result, Ok, Err}

module _ {X E : Type 0} (One : X → Type 0) (S G : (x : X) → One x → Type 0) where
  pub without_step : (reply : Result (Option X) E)
      → IfOk reply (λ taken. IfSome taken (λ x. (one : One x) × S x one × G x one))
      → IfOk reply (λ taken. IfSome taken (λ x. (one : One x) × G x one))
  without_step (Ok (Some x)) (one, step, greatest) = (one, greatest)
  without_step (Ok None) h = tt
  without_step (Err error) h = tt
