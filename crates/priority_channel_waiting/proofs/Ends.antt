-- An error for another reason than the time has no evidence about the time.
use Rattle.std.proofs.Common.{arith}
use Rattle.priority_channel_waiting.specs.declared.timeouts.Ended.{Ended}
use Rattle.priority_channel_waiting.specs.Ends.{OnOver}

module _ {C O : Type 0} (fact : O → Type 0) where
  pub not_over : (ended : Ended C O) → OnOver ended (λ over. ⊥) → OnOver ended fact
  not_over ended none = grind arith
