-- What is left of a call is what the core gives back, and the error of the call holds it.
use Rattle.std.proofs.Common.{arith, ◌≡◌, IfErr, IfSome, IsErrAnd, Result}
use Rattle.priority_channel_core.specs.Prelude.{rest_of, SendReply}
use Rattle.priority_channel_waiting.specs.Waits.{left_over, outcome_of_send}

module _ {C : Type 0} (Q : C → Type 0) where
  pub left_of_send : (reply : SendReply C) → IfErr reply (λ error. Q (rest_of error)) → IfSome (left_over (outcome_of_send reply)) Q
  left_of_send reply h = grind arith

-- the error holds what came back of the call that it was made from
pub held_by_error : {C F X : Type 0} (Q : C → Type 0) (Tells : F → Type 0) (held : F → C) (back : C) (result : Result X F)
    → IsErrAnd result (λ error. Tells error × (held error ≡ back)) → Q back → IfErr result (λ error. Q (held error))
held_by_error Q Tells held back result h k = grind arith
